-- Texts that are put together from the left, put together from the right.
use Rattle.std.proofs.Common.{◌≡◌, ℕ, List, ◌++◌, append_assoc, ◌∙◌}

module _ (a b c : List ℕ) where
  pub nest4 : (d : List ℕ) → a ++ b ++ c ++ d ≡ a ++ (b ++ (c ++ d))
  nest4 d = append_assoc (a ++ b) c d ∙ append_assoc a b (c ++ d)

  pub nest5 : (d e : List ℕ) → a ++ b ++ c ++ d ++ e ≡ a ++ (b ++ (c ++ (d ++ e)))
  nest5 d e = append_assoc (a ++ b ++ c) d e ∙ nest4 (d ++ e)

  pub nest6 : (d e f : List ℕ) → a ++ b ++ c ++ d ++ e ++ f ≡ a ++ (b ++ (c ++ (d ++ (e ++ f))))
  nest6 d e f = append_assoc (a ++ b ++ c ++ d) e f ∙ nest5 d (e ++ f)

  pub nest7 : (d e f g : List ℕ) → a ++ b ++ c ++ d ++ e ++ f ++ g ≡ a ++ (b ++ (c ++ (d ++ (e ++ (f ++ g)))))
  nest7 d e f g = append_assoc (a ++ b ++ c ++ d ++ e) f g ∙ nest6 d e (f ++ g)

  pub nest8 : (d e f g h : List ℕ) → a ++ b ++ c ++ d ++ e ++ f ++ g ++ h ≡ a ++ (b ++ (c ++ (d ++ (e ++ (f ++ (g ++ h))))))
  nest8 d e f g h = append_assoc (a ++ b ++ c ++ d ++ e ++ f) g h ∙ nest7 d e f (g ++ h)

  pub nest9 : (d e f g h i : List ℕ) → a ++ b ++ c ++ d ++ e ++ f ++ g ++ h ++ i ≡ a ++ (b ++ (c ++ (d ++ (e ++ (f ++ (g ++ (h ++ i)))))))
  nest9 d e f g h i = append_assoc (a ++ b ++ c ++ d ++ e ++ f ++ g) h i ∙ nest8 d e f g (h ++ i)
