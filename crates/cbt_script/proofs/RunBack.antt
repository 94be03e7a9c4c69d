-- The names of actors, and the printed order and sweep as lines.
use Rattle.std.proofs.Common.{◌≡◌, ℕ, zero, suc, ◌+◌, ◌-◌, ◌^◌, ◌<◌, ◌≤◌, List, [], ◌∷◌, ◌++◌, length, get_or, map, slice_get, Option, Some, None, Ok, decimal, codes, ◌≢◌, refl, sym, ap, ◌∙◌, subst, arith}
use Rattle.std.specs.List.{All}
use Rattle.std.proofs.lemmas.List.Elements.{All-nil, All-cons, All-head, All-tail, All-append, All-map, All-weaker, All-get_or}
use Rattle.cbt_base.specs.Keyed.{at_key}
use Rattle.cbt_expr.specs.declared.plans.TxnPlan.{TxnPlan}
use Rattle.cbt_lex.proofs.DecimalsBack.{decimal_word}
use Rattle.cbt_lex.proofs.WordsBack.{led_word, led_last}
use Rattle.cbt_model.specs.Keys.{doc_cmp}
use Rattle.cbt_model.specs.declared.events.Item.{Item}
use Rattle.cbt_script.specs.declared.course.Course.{Course}
use Rattle.cbt_script.specs.declared.documents.Documents.{Documents}
use Rattle.cbt_script.specs.declared.draft.Draft.{Draft}
use Rattle.cbt_script.specs.declared.draft.Group.{Group}
use Rattle.cbt_script.specs.declared.draft.Group.TheVariants as group
use Rattle.cbt_script.specs.declared.keywords.Keyword.TheVariants as k
use Rattle.cbt_script.specs.declared.script.Script.{Script}
use Rattle.cbt_script.specs.Causes.{◌>>=◌, and_then}
use Rattle.cbt_script.specs.Course.{Actors, add_order, set_sweep}
use Rattle.cbt_script.specs.Drafts.{group_number, order_line, sweep_line}
use Rattle.cbt_script.specs.Fields.{end_field}
use Rattle.cbt_script.specs.Keywords.{keyword_of}
use Rattle.cbt_script.specs.Operations.{Bound}
use Rattle.cbt_script.specs.Printed.{named, name_of, item_text, items_text, order_lines, sweep_lines}
use Rattle.cbt_script.specs.Rules.{IsActorName, IsClient, IsCleaner, AreDistinct, actor_names, IsActor, IsItem, IsSweep, IsScript}
use Rattle.cbt_script.specs.Settings.{max_ms}
use Rattle.cbt_script.proofs.ActorsBack.{actors_after, actors_append, none_at_first, number_after}
use Rattle.cbt_script.proofs.CourseBack.{Reaches, run}
use Rattle.cbt_script.proofs.DocumentsBack.{entered}
use Rattle.cbt_script.proofs.KeywordsBack.{line_taken}
use Rattle.cbt_script.proofs.OperationsBack.{Client}
use Rattle.cbt_script.proofs.OrderBack.{item_word, order_back}
use Rattle.cbt_script.proofs.FieldsBack.{number_field-last}

-- ---- names

cleaner_at : (cleaners : List (List ℕ × ℕ)) (i : ℕ) → i < length (map (λ (c : List ℕ × ℕ). c.0) cleaners) → named None (slice_get cleaners i) ≡ get_or (map (λ (c : List ℕ × ℕ). c.0) cleaners) i []
cleaner_at [] i within = absurd (omega arith)
cleaner_at (c ∷ cleaners) zero within = refl
cleaner_at (c ∷ cleaners) (suc i) within = cleaner_at cleaners i (omega arith)

name_at : (clients : List Client) (cleaners : List (List ℕ × ℕ)) (i : ℕ) → i < length (map (λ (c : Client). c.0) clients ++ map (λ (c : List ℕ × ℕ). c.0) cleaners)
    → named (slice_get clients i) (slice_get cleaners (i - length clients)) ≡ get_or (map (λ (c : Client). c.0) clients ++ map (λ (c : List ℕ × ℕ). c.0) cleaners) i []
name_at [] cleaners i within = let same : i - 0 ≡ i = omega arith in ap (λ n. named None (slice_get cleaners n)) same ∙ cleaner_at cleaners i within
name_at (c ∷ clients) cleaners zero within = refl
name_at (c ∷ clients) cleaners (suc i) within =
    let same : suc i - suc (length clients) ≡ i - length clients = omega arith in
    ap (λ n. named (slice_get clients i) (slice_get cleaners n)) same ∙ name_at clients cleaners i (omega arith)

module _ (s : Script) where
  name_is : (n : ℕ) → IsActor s n → name_of s n ≡ get_or (actor_names s) (n - 1) []
  name_is n is = let low : 1 ≤ n = is.0 in let high : n ≤ length (actor_names s) = is.1 in name_at s.clients s.cleaners (n - 1) (omega arith)

  module _ (is : IsScript s) where
    all_named : All IsActorName (actor_names s)
    all_named =
        All-append IsActorName (map (λ c. c.0) s.clients) (map (λ c. c.0) s.cleaners)
        (All-map IsActorName (λ (c : Client). c.0) s.clients (All-weaker IsClient (λ c. IsActorName c.0) (λ c fine. fine.0) s.clients is.clients))
        (All-map IsActorName (λ (c : List ℕ × ℕ). c.0) s.cleaners (All-weaker IsCleaner (λ c. IsActorName c.0) (λ c fine. fine.0) s.cleaners is.cleaners))

    pub names_fine : (n : ℕ) → IsActor s n → IsActorName (name_of s n)
    names_fine n actor =
        let low : 1 ≤ n = actor.0 in
        let high : n ≤ length (actor_names s) = actor.1 in
        subst IsActorName (sym (name_is n actor)) (All-get_or IsActorName (actor_names s) (n - 1) [] (omega arith) all_named)

    -- the actors behind the last cleaner
    abbrev pub the_actors : Actors
    the_actors = actors_after (map (λ c. c.0) s.cleaners) (actors_after (map (λ c. c.0) s.clients) [])

    pub numbers_fine : (n : ℕ) → IsActor s n → at_key doc_cmp the_actors (name_of s n) ≡ Some n
    numbers_fine n actor =
        let low : 1 ≤ n = actor.0 in
        let high : n ≤ length (actor_names s) = actor.1 in
        let same : 0 + 1 + (n - 1) ≡ n = omega arith in
        ap (λ a. at_key doc_cmp a (name_of s n)) (sym (actors_append (map (λ c. c.0) s.clients) (map (λ c. c.0) s.cleaners) []))
        ∙ ap (at_key doc_cmp (actors_after (actor_names s) [])) (name_is n actor)
        ∙ number_after (actor_names s) [] (n - 1) (omega arith) is.actors (none_at_first (actor_names s)) ∙ ap Some same

-- ---- distinct names

all_front : {X : Type 0} (P : X → Type 0) (xs ys : List X) → All P (xs ++ ys) → All P xs
all_front P [] ys all = All-nil P
all_front P (x ∷ xs) ys all = All-cons P x xs (All-head P x (xs ++ ys) all) (all_front P xs ys (All-tail P x (xs ++ ys) all))

pub distinct_front : (a b : List (List ℕ)) → AreDistinct (a ++ b) → AreDistinct a
distinct_front [] b apart = tt
distinct_front (x ∷ a) b apart = (all_front (λ y. x ≢ y) a b apart.0, distinct_front a b apart.1)

pub distinct_back : (a b : List (List ℕ)) → AreDistinct (a ++ b) → AreDistinct b
distinct_back [] b apart = apart
distinct_back (x ∷ a) b apart = distinct_back a b apart.1

-- ---- the order and the sweep

module _ (s : Script) (ds : Documents) (done : List Client) (last : Option (List ℕ)) (txns : List TxnPlan) (bound : Bound) (tried : ℕ)
    (actors : Actors) (names : (n : ℕ) → IsActor s n → IsActorName (name_of s n)) (numbers : (n : ℕ) → IsActor s n → at_key doc_cmp actors (name_of s n) ≡ Some n) where
  abbrev pub running : Group → Course → Draft
  running g c = run s ds done last txns bound tried g actors c

  pub order_lines_back : (g : Group) → group_number g ≤ 5 → (c : Course) (order : List Item) → All (IsItem s) order
      → Reaches 5 (running g (record c { order = [] })) (order_lines s order) (λ h. running h (record c { order = order }))
  unfolding keyword_of order_line
  order_lines_back g low c [] all = record { last = g; low = low; reads = refl }
  order_lines_back g low c (i ∷ order) all =
      let here = running g (record c { order = [] }) in
      let rest = item_text s i ++ items_text s order in
      record {
        last = group.Order;
        low = omega arith;
        reads = ap (λ r. and_then r (λ x. Ok x))
            (line_taken here 111 (codes "rder") rest k.Order refl refl refl (led_word (item_text s i) (items_text s order) (item_word s actors names numbers i (All-head (IsItem s) i order all)))
            ∙ ap (λ r. r >>= (λ e. add_order e.actors e.course rest >>= (λ x. Ok (record e { course = x })))) (entered group.Order here low)
            ∙ ap (λ r. r >>= (λ x. Ok (running group.Order x))) (order_back s actors names numbers (record c { order = [] }) i order all));
      }

  pub sweep_lines_back : (g : Group) → group_number g ≤ 6 → (c : Course) (sweep : Option ℕ) → IsSweep sweep
      → Reaches 6 (running g (record c { sweep = None })) (sweep_lines sweep) (λ h. running h (record c { sweep = sweep }))
  unfolding keyword_of sweep_line set_sweep
  sweep_lines_back g low c None is = record { last = g; low = low; reads = refl }
  sweep_lines_back g low c (Some ms) is =
      let here = running g (record c { sweep = None }) in
      let high : ms ≤ max_ms = is in
      let fits : ms < 2 ^ 64 = omega arith in
      record {
        last = group.Sweep;
        low = omega arith;
        reads = ap (λ r. and_then r (λ x. Ok x))
            (line_taken here 115 (codes "weep") (decimal ms) k.Sweep refl refl refl (led_last (decimal ms) (decimal_word ms fits))
            ∙ ap (λ r. r >>= (λ e. set_sweep e.course (decimal ms) >>= (λ x. Ok (record e { course = x })))) (entered group.Sweep here low)
            ∙ ap (λ r. (r >>= (λ m. end_field m.1 >>= (λ _. Ok (record c { sweep = Some m.0 })))) >>= (λ x. Ok (running group.Sweep x))) (number_field-last 0 max_ms ms (omega arith) high fits));
      }
