-- What follows a term in a canonical text: nothing, a sign, or a byte that ends the expression.
use Rattle.std.proofs.Common.{◌≡◌, ℕ, ◌+◌, Bool, true, false, cond, ◌||◌, eqb, List, [], ◌∷◌, None, Ok, refl, ap, arith}
use Rattle.std.proofs.lemmas.Bool.Decides.{nat_tests}
use Rattle.std.specs.List.{prefix_len}
use Rattle.cbt_lex.specs.Decimals.{is_digit}
use Rattle.cbt_lex.specs.Lines.{skip_spaces}
use Rattle.cbt_lex.specs.Names.{is_name_byte}
use Rattle.cbt_syntax.specs.declared.references.Within.TheVariants.{Steps}
use Rattle.cbt_syntax.specs.Numbers.{digits, goes_on}
use Rattle.cbt_syntax.specs.References.{stops, led_to, path_end}
use Rattle.cbt_syntax.specs.Terms.{sign_at}

-- `,`, `]`, `}`, `=`, `!`, `<` or `>`
abbrev pub is_stop : ℕ → Bool
is_stop b = eqb b 44 || eqb b 93 || eqb b 125 || eqb b 61 || eqb b 33 || eqb b 60 || eqb b 62

abbrev pub Stops : List ℕ → Type 0
Stops [] = Unit {0}
Stops (b ∷ bs) = is_stop b ≡ true

abbrev pub is_end : ℕ → Bool
is_end b = eqb b 43 || eqb b 45 || is_stop b

abbrev pub Ends : List ℕ → Type 0
Ends [] = Unit {0}
Ends (b ∷ bs) = is_end b ≡ true

stop_is_end : (b : ℕ) → is_stop b ≡ true → is_end b ≡ true
stop_is_end b e = grind (arith, nat_tests)

pub stops-ends : (rest : List ℕ) → Stops rest → Ends rest
stops-ends [] h = tt
stops-ends (b ∷ bs) h = stop_is_end b h

end_no_digit : (b : ℕ) → is_end b ≡ true → is_digit b ≡ false
end_no_digit b e = grind (arith, nat_tests)

pub digits-end : (n : ℕ) (rest : List ℕ) → Ends rest → digits n rest ≡ Ok (n, rest)
digits-end n [] h = refl
digits-end n (b ∷ bs) h = simp (end_no_digit b h)

end_no_fraction : (b : ℕ) → is_end b ≡ true → eqb b 46 || eqb b 101 || eqb b 69 ≡ false
end_no_fraction b e = grind (arith, nat_tests)

pub goes_on-end : (rest : List ℕ) → Ends rest → goes_on rest ≡ false
goes_on-end [] h = refl
goes_on-end (b ∷ bs) h = end_no_fraction b h

end_no_name : (b : ℕ) → is_end b ≡ true → is_name_byte b ≡ false
end_no_name b e = grind (arith, nat_tests)

pub name-end : (rest : List ℕ) → Ends rest → prefix_len is_name_byte rest ≡ 0
name-end [] h = refl
name-end (b ∷ bs) h = ap (λ t. cond t (1 + prefix_len is_name_byte bs) 0) (end_no_name b h)

end_stops : (b : ℕ) → is_end b ≡ true → stops Steps b ≡ true
end_stops b e = grind (arith, nat_tests)

pub path-end : (at : ℕ) (rest : List ℕ) → Ends rest → path_end at Steps rest ≡ at
path-end at [] h = refl
path-end at (b ∷ bs) h = ap (λ t. cond t at (path_end (at + 1) (led_to Steps b) bs)) (end_stops b h)

end_no_space : (b : ℕ) → is_end b ≡ true → eqb b 32 ≡ false
end_no_space b e = grind (arith, nat_tests)

pub spaces-end : (rest : List ℕ) → Ends rest → skip_spaces rest ≡ rest
spaces-end [] h = refl
spaces-end (b ∷ bs) h = ap (λ t. cond t (skip_spaces bs) (b ∷ bs)) (end_no_space b h)

stop_no_plus : (b : ℕ) → is_stop b ≡ true → eqb b 43 ≡ false
stop_no_plus b e = grind (arith, nat_tests)

stop_no_minus : (b : ℕ) → is_stop b ≡ true → eqb b 45 ≡ false
stop_no_minus b e = grind (arith, nat_tests)

pub sign-stop : (rest : List ℕ) → Stops rest → sign_at rest ≡ None
sign-stop [] h = refl
sign-stop (b ∷ bs) h = simp (stop_no_plus b h, stop_no_minus b h)
