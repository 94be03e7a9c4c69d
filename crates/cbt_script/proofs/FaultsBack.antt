-- The printed failing calls are read back.
use Rattle.std.proofs.Common.{◌≡◌, ℕ, ◌^◌, ◌<◌, ◌≤◌, Bool, true, false, cond, not, List, [], ◌∷◌, ◌++◌, Option, Some, Ok, is_some, Less, decimal, codes, refl, sym, ap, ◌∙◌, arith, append_assoc, append-nil}
use Rattle.std.specs.Cmp.{IsTotalOrder}
use Rattle.std.specs.List.{All, AllByRecursion}
use Rattle.std.specs.List.Sorted.{IsStrictlySortedBy}
use Rattle.std.proofs.lemmas.Cmp.{nat_cmp_total, on_total, then_total}
use Rattle.std.proofs.lemmas.List.Elements.{All-head, All-tail}
use Rattle.cbt_base.specs.Keyed.{at_key, with_pair, Rises}
use Rattle.cbt_expr.specs.declared.plans.TxnPlan.{TxnPlan}
use Rattle.cbt_lex.proofs.NamesBack.{name_word}
use Rattle.cbt_lex.proofs.WordsBack.{led_word}
use Rattle.cbt_model.specs.Faults.{call_cmp}
use Rattle.cbt_model.specs.Keys.{doc_cmp}
use Rattle.cbt_model.specs.declared.events.Fate.{Fate}
use Rattle.cbt_model.specs.declared.events.Fate.TheVariants.{Plain, Lost, Late}
use Rattle.cbt_script.specs.declared.cause.Cause.TheVariants.{Twice}
use Rattle.cbt_script.specs.declared.documents.Documents.{Documents}
use Rattle.cbt_script.specs.declared.draft.Draft.{Draft}
use Rattle.cbt_script.specs.declared.draft.Group.{Group}
use Rattle.cbt_script.specs.declared.draft.Group.TheVariants as group
use Rattle.cbt_script.specs.declared.keywords.Keyword.TheVariants as k
use Rattle.cbt_script.specs.declared.script.Script.{Script}
use Rattle.cbt_script.specs.Causes.{◌>>=◌, require}
use Rattle.cbt_script.specs.Course.{Actors, known, known_actor, add_fault}
use Rattle.cbt_script.specs.Drafts.{group_number, fault_line}
use Rattle.cbt_script.specs.Fields.{number_field, end_field}
use Rattle.cbt_script.specs.Keywords.{keyword_of}
use Rattle.cbt_script.specs.Operations.{Bound}
use Rattle.cbt_script.specs.Printed.{name_of, is_fate, fault_lines}
use Rattle.cbt_script.specs.Printed as printed
use Rattle.cbt_script.specs.Reading.{taken}
use Rattle.cbt_script.specs.Rules.{IsActorName, IsActor, IsFault}
use Rattle.cbt_script.proofs.DocumentsBack.{entered}
use Rattle.cbt_script.proofs.CourseBack.{Reaches, reach_on, reach_same, name_and_number, run, cleaning}
use Rattle.cbt_script.proofs.Drafted.{drafted, drafted_on, drafted_both}
use Rattle.cbt_script.proofs.KeysBack.{AllBelow, AllAbove, insert_between, none_between, rises_above}
use Rattle.cbt_script.proofs.KeywordsBack.{line_taken}
use Rattle.cbt_script.proofs.OperationsBack.{Client}
use Rattle.cbt_script.proofs.FieldsBack.{number_field-last}

-- calls by actor, and then by number
call_cmp_total : IsTotalOrder call_cmp
call_cmp_total = then_total (on_total (λ (c : ℕ × ℕ). c.0) nat_cmp_total) (on_total (λ (c : ℕ × ℕ). c.1) nat_cmp_total)

abbrev Fates : Type 0
Fates = List ((ℕ × ℕ) × Fate)

-- the calls that are lost
abbrev lost : Fates → Fates
lost [] = []
lost (fault ∷ faults) = cond (is_fate fault.1 Lost) (fault ∷ lost faults) (lost faults)

-- each of the first stands before each of the others
abbrev AllBefore : Fates → Fates → Type 0
AllBefore first more = AllByRecursion (λ fault. AllBelow call_cmp first fault.0) more

before_first : (more : Fates) → AllBefore [] more
before_first [] = tt
before_first (fault ∷ more) = (tt, before_first more)

one_more_below : (first : Fates) (fault : (ℕ × ℕ) × Fate) (key : ℕ × ℕ) → AllBelow call_cmp first key → call_cmp fault.0 key ≡ Less → AllBelow call_cmp (first ++ fault ∷ []) key
one_more_below [] fault key below less = (less, tt)
one_more_below (f ∷ first) fault key below less = (below.0, one_more_below first fault key below.1 less)

before_more : (first more : Fates) (fault : (ℕ × ℕ) × Fate) → AllBefore first more → AllAbove call_cmp more fault.0 → AllBefore (first ++ fault ∷ []) more
before_more first [] fault before above = tt
before_more first (next ∷ more) fault before above = (one_more_below first fault next.0 before.0 above.0, before_more first more fault before.1 above.1)

lost_above_if : (t : Bool) (fault : (ℕ × ℕ) × Fate) (more : Fates) (key : ℕ × ℕ) → call_cmp key fault.0 ≡ Less → AllAbove call_cmp (lost more) key → AllAbove call_cmp (cond t (fault ∷ lost more) (lost more)) key
lost_above_if true fault more key less above = (less, above)
lost_above_if false fault more key less above = above

lost_above : (more : Fates) (key : ℕ × ℕ) → AllAbove call_cmp more key → AllAbove call_cmp (lost more) key
lost_above [] key above = tt
lost_above (fault ∷ more) key above = lost_above_if (is_fate fault.1 Lost) fault more key above.0 (lost_above more key above.1)

first_above : (fault : (ℕ × ℕ) × Fate) (more : Fates) → Rises call_cmp (fault ∷ more) → AllAbove call_cmp more fault.0
first_above fault more rises = rises_above call_cmp [] more fault.0 fault.1 rises

tail_rises : (fault : (ℕ × ℕ) × Fate) (more : Fates) → Rises call_cmp (fault ∷ more) → Rises call_cmp more
unfolding IsStrictlySortedBy
tail_rises fault more rises = rises.1

module _ (s : Script) (ds : Documents) (done : List Client) (last : Option (List ℕ)) (txns : List TxnPlan) (bound : Bound) (tried : ℕ)
    (actors : Actors) (names : (n : ℕ) → IsActor s n → IsActorName (name_of s n)) (numbers : (n : ℕ) → IsActor s n → at_key doc_cmp actors (name_of s n) ≡ Some n)
    (cleaners : List (List ℕ × ℕ)) (passes : ℕ) (stops : List (ℕ × ℕ)) where
  abbrev with_fates : Group → Fates → Draft
  with_fates g fates = run s ds done last txns bound tried g actors (record (cleaning s ds done last txns bound tried cleaners passes) { stops = stops; faults = record { fates = fates } })

  module _ (g : Group) (low : group_number g ≤ 4) (first rest : Fates) (actor call : ℕ) (is : IsActor s actor) (least : 1 ≤ call) (high : call ≤ 1000000)
      (below : AllBelow call_cmp first (actor, call)) (above : AllAbove call_cmp rest (actor, call)) where
    abbrev at_fault : Draft
    at_fault = with_fates g (first ++ rest)

    abbrev past_fault : Fate → Draft
    past_fault fate = with_fates group.Faults (first ++ ((actor, call), fate) ∷ rest)

    abbrev fault_rest : List ℕ
    fault_rest = name_of s actor ++ 32 ∷ decimal call

    fault_added : (fate : Fate) → fault_line fate at_fault fault_rest ≡ Ok (past_fault fate)
    unfolding fault_line add_fault
    fault_added fate =
        let fits : call < 2 ^ 64 = omega arith in
        let fates = first ++ rest in
        ap (λ r. r >>= (λ e. add_fault fate e.actors e.course fault_rest >>= (λ c. Ok (record e { course = c })))) (entered group.Faults at_fault low)
        ∙ ap (λ r. (r >>= (λ n. known_actor actors n.0 >>= (λ a. number_field 1 1000000 n.1 >>= (λ m. require (not (is_some (at_key call_cmp fates (a, m.0)))) Twice >>= (λ _. end_field m.1
        >>= (λ _. Ok (record at_fault.course { faults = record { fates = with_pair call_cmp fates (a, m.0) fate } }))))))) >>= (λ c. Ok (record at_fault { group = group.Faults; course = c })))
        (name_and_number (name_of s actor) call (names actor is) fits)
        ∙ ap (λ r. (r >>= (λ a. number_field 1 1000000 (decimal call) >>= (λ m. require (not (is_some (at_key call_cmp fates (a, m.0)))) Twice >>= (λ _. end_field m.1
        >>= (λ _. Ok (record at_fault.course { faults = record { fates = with_pair call_cmp fates (a, m.0) fate } })))))) >>= (λ c. Ok (record at_fault { group = group.Faults; course = c })))
        (ap known (numbers actor is))
        ∙ ap (λ r. (r >>= (λ m. require (not (is_some (at_key call_cmp fates (actor, m.0)))) Twice >>= (λ _. end_field m.1
        >>= (λ _. Ok (record at_fault.course { faults = record { fates = with_pair call_cmp fates (actor, m.0) fate } }))))) >>= (λ c. Ok (record at_fault { group = group.Faults; course = c })))
        (number_field-last 1 1000000 call least high fits)
        ∙ ap (λ o. (require (not (is_some o)) Twice >>= (λ _. Ok (record at_fault.course { faults = record { fates = with_pair call_cmp fates (actor, call) fate } })))
        >>= (λ c. Ok (record at_fault { group = group.Faults; course = c }))) (none_between call_cmp call_cmp_total first rest (actor, call) below above)
        ∙ ap (λ x. Ok (with_fates group.Faults x)) (insert_between call_cmp call_cmp_total first rest (actor, call) fate below above)

    lost_taken : taken at_fault (printed.fault_line (codes "lost ") s actor call) ≡ Ok (past_fault Lost)
    unfolding keyword_of
    lost_taken =
        ap (λ x. taken at_fault (codes "lost " ++ x)) (append_assoc (name_of s actor) (32 ∷ []) (decimal call))
        ∙ line_taken at_fault 108 (codes "ost") fault_rest k.Lost refl refl refl (led_word (name_of s actor) (32 ∷ decimal call) (name_word (name_of s actor) (names actor is).0)) ∙ fault_added Lost

    late_taken : taken at_fault (printed.fault_line (codes "late ") s actor call) ≡ Ok (past_fault Late)
    unfolding keyword_of
    late_taken =
        ap (λ x. taken at_fault (codes "late " ++ x)) (append_assoc (name_of s actor) (32 ∷ []) (decimal call))
        ∙ line_taken at_fault 108 (codes "ate") fault_rest k.Late refl refl refl (led_word (name_of s actor) (32 ∷ decimal call) (name_word (name_of s actor) (names actor is).0)) ∙ fault_added Late

  -- ---- the lost calls

  abbrev LostRead : Fates → Fates → Type 0
  LostRead first more = (g : Group) → group_number g ≤ 4 → Reaches 4 (with_fates g first) (fault_lines Lost s more) (λ h. with_fates h (first ++ lost more))

  lost_step : (first more : Fates) (key : ℕ × ℕ) (fate : Fate) → IsFault s (key, fate) → AllBelow call_cmp first key → LostRead first more → LostRead (first ++ (key, fate) ∷ []) more
      → LostRead first ((key, fate) ∷ more)
  lost_step first more key Plain is below past next = λ g low. absurd (is.2 refl)
  lost_step first more key Late is below past next = past
  lost_step first more key Lost is below past next = λ g low.
      let e = append-nil first in
      reach_on 4 (with_fates g first) (with_fates group.Faults (first ++ (key, Lost) ∷ [])) (printed.fault_line (codes "lost ") s key.0 key.1) (fault_lines Lost s more) (λ h. with_fates h (first ++ (key, Lost) ∷ lost more))
      (ap (λ x. taken (with_fates g x) (printed.fault_line (codes "lost ") s key.0 key.1)) (sym e) ∙ lost_taken g low first [] key.0 key.1 is.0 is.1.0 is.1.1 below tt)
      (reach_same 4 (with_fates group.Faults (first ++ (key, Lost) ∷ [])) (fault_lines Lost s more) (λ h. with_fates h (first ++ (key, Lost) ∷ [] ++ lost more)) (λ h. with_fates h (first ++ (key, Lost) ∷ lost more))
      (λ h. ap (with_fates h) (append_assoc first ((key, Lost) ∷ []) (lost more))) (next group.Faults (omega arith)))

  lost_back : (first more : Fates) → All (IsFault s) more → AllBefore first more → Rises call_cmp more → LostRead first more
  lost_back first [] all before rises = λ g low. record { last = g; low = low; reads = ap (λ x. Ok (with_fates g x)) (sym (append-nil first)) }
  lost_back first (fault ∷ more) all before rises =
      let tail = All-tail (IsFault s) fault more all in
      let up = tail_rises fault more rises in
      lost_step first more fault.0 fault.1 (All-head (IsFault s) fault more all) before.0 (lost_back first more tail before.1 up)
      (lost_back (first ++ fault ∷ []) more tail (before_more first more fault before.1 (first_above fault more rises)) up)

  -- ---- the late calls, between the lost ones

  abbrev LateRead : Fates → Fates → Type 0
  LateRead first more = (g : Group) → group_number g ≤ 4 → Reaches 4 (with_fates g (first ++ lost more)) (fault_lines Late s more) (λ h. with_fates h (first ++ more))

  late_step : (first more : Fates) (key : ℕ × ℕ) (fate : Fate) → IsFault s (key, fate) → AllBelow call_cmp first key → AllAbove call_cmp (lost more) key → LateRead (first ++ (key, fate) ∷ []) more
      → LateRead first ((key, fate) ∷ more)
  late_step first more key Plain is below above next = λ g low. absurd (is.2 refl)
  late_step first more key Lost is below above next = λ g low.
      let tail = next g low in
      record {
        last = tail.last;
        low = tail.low;
        reads = ap (λ x. drafted (with_fates g x) (fault_lines Late s more)) (sym (append_assoc first ((key, Lost) ∷ []) (lost more))) ∙ tail.reads
            ∙ ap (λ x. Ok (with_fates tail.last x)) (append_assoc first ((key, Lost) ∷ []) more);
      }
  late_step first more key Late is below above next = λ g low.
      let tail = next group.Faults (omega arith) in
      record {
        last = tail.last;
        low = tail.low;
        reads = drafted_on (with_fates g (first ++ lost more)) (with_fates group.Faults (first ++ (key, Late) ∷ lost more)) (with_fates tail.last (first ++ (key, Late) ∷ more))
            (printed.fault_line (codes "late ") s key.0 key.1) (fault_lines Late s more) (late_taken g low first (lost more) key.0 key.1 is.0 is.1.0 is.1.1 below above)
            (ap (λ x. drafted (with_fates group.Faults x) (fault_lines Late s more)) (sym (append_assoc first ((key, Late) ∷ []) (lost more))) ∙ tail.reads
            ∙ ap (λ x. Ok (with_fates tail.last x)) (append_assoc first ((key, Late) ∷ []) more));
      }

  late_back : (first more : Fates) → All (IsFault s) more → AllBefore first more → Rises call_cmp more → LateRead first more
  late_back first [] all before rises = λ g low. record { last = g; low = low; reads = refl }
  late_back first (fault ∷ more) all before rises =
      let above = first_above fault more rises in
      late_step first more fault.0 fault.1 (All-head (IsFault s) fault more all) before.0 (lost_above more fault.0 above)
      (late_back (first ++ fault ∷ []) more (All-tail (IsFault s) fault more all) (before_more first more fault before.1 above) (tail_rises fault more rises))

  -- all failing calls, the lost ones first
  pub faults_back : (fates : Fates) → All (IsFault s) fates → Rises call_cmp fates → (g : Group) → group_number g ≤ 4
      → Reaches 4 (with_fates g []) (fault_lines Lost s fates ++ fault_lines Late s fates) (λ h. with_fates h fates)
  faults_back fates all rises g low =
      let one = lost_back [] fates all (before_first fates) rises g low in
      let two = late_back [] fates all (before_first fates) rises one.last one.low in
      record {
        last = two.last;
        low = two.low;
        reads = drafted_both (with_fates g []) (with_fates one.last (lost fates)) (with_fates two.last fates) (fault_lines Lost s fates) (fault_lines Late s fates) one.reads two.reads;
      }
