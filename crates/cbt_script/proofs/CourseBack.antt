-- The printed cleaners, stops and failing calls are read back.
use Rattle.std.proofs.Common.{◌≡◌, ℕ, ◌+◌, ◌*◌, ◌^◌, ◌<◌, ◌≤◌, ltb, leb, not, ◌&&◌, List, [], ◌∷◌, ◌++◌, length, map, Option, Some, None, Result, Ok, is_some, nat_cmp, decimal, codes, refl, sym, ap, ◌∙◌, subst, arith, append_assoc, append-nil, length-append}
use Rattle.std.specs.List.{All}
use Rattle.std.proofs.lemmas.Bool.{lt-ltb, le-leb, and_from}
use Rattle.std.proofs.lemmas.Cmp.{nat_cmp_total}
use Rattle.std.proofs.lemmas.List.Elements.{All-head, All-tail}
use Rattle.cbt_base.specs.Keyed.{at_key, with_pair, Rises}
use Rattle.cbt_expr.specs.declared.plans.TxnPlan.{TxnPlan}
use Rattle.cbt_lex.proofs.DecimalsBack.{decimal_word}
use Rattle.cbt_lex.proofs.NamesBack.{name_word}
use Rattle.cbt_lex.proofs.Spaces.{behind_space}
use Rattle.cbt_lex.proofs.WordsBack.{led_word, led_last}
use Rattle.cbt_model.specs.Keys.{doc_cmp}
use Rattle.cbt_model.specs.declared.events.Fate.{Fate}
use Rattle.cbt_script.specs.declared.cause.Cause.{Cause}
use Rattle.cbt_script.specs.declared.cause.Cause.TheVariants.{Twice, Limit}
use Rattle.cbt_script.specs.declared.course.Course.{Course}
use Rattle.cbt_script.specs.declared.documents.Documents.{Documents}
use Rattle.cbt_script.specs.declared.draft.Draft.{Draft}
use Rattle.cbt_script.specs.declared.draft.Group.{Group}
use Rattle.cbt_script.specs.declared.draft.Group.TheVariants as group
use Rattle.cbt_script.specs.declared.keywords.Keyword.TheVariants as k
use Rattle.cbt_script.specs.declared.script.Script.{Script}
use Rattle.cbt_script.specs.Causes.{◌>>=◌, require}
use Rattle.cbt_script.specs.Course.{Actors, with_actor, no_course, known, known_actor, add_cleaner, add_stop}
use Rattle.cbt_script.specs.Drafts.{start, group_number, atrs_of, cleaner_line, stop_line}
use Rattle.cbt_script.specs.Fields.{actor_field, number_field, end_field}
use Rattle.cbt_script.specs.Keywords.{keyword_of}
use Rattle.cbt_script.specs.Operations.{Bound}
use Rattle.cbt_script.specs.Printed.{cleaner_lines, name_of, stop_lines}
use Rattle.cbt_script.specs.Printed as printed
use Rattle.cbt_script.specs.Reading.{taken}
use Rattle.cbt_script.specs.Rules.{IsActorName, IsCleaner, IsActor, IsStop, AreDistinct, rounds_of}
use Rattle.cbt_script.proofs.ActorsBack.{actors_after, NoneNamed, none_named_more}
use Rattle.cbt_script.proofs.DocumentsBack.{entered}
use Rattle.cbt_script.proofs.Drafted.{drafted, drafted_on, drafted_both}
use Rattle.cbt_script.proofs.KeysBack.{AllBelow, insert_between, none_between, rises_below}
use Rattle.cbt_script.proofs.KeywordsBack.{line_taken}
use Rattle.cbt_script.proofs.OperationsBack.{Client}
use Rattle.cbt_script.proofs.SettingsBack.{all_settings}
use Rattle.cbt_script.proofs.FieldsBack.{actor_field-next, bytes_other, number_field-last}

abbrev Both : Type 0
Both = Actors × Course

abbrev both_of : Actors → Course → Result Both Cause
both_of actors c = Ok (actors, c)

-- lines that lead from a draft to another, in whose group some lines may follow
pub record Reaches (most : ℕ) (d : Draft) (lines : List (List ℕ)) (to : Group → Draft) : Type 0 where
  pub last : Group
  pub low : group_number last ≤ most
  pub reads : drafted d lines ≡ Ok (to last)

pub reach_on : (most : ℕ) (d e : Draft) (line : List ℕ) (lines : List (List ℕ)) (to : Group → Draft) → taken d line ≡ Ok e → Reaches most e lines to → Reaches most d (line ∷ lines) to
reach_on most d e line lines to one more = record { last = more.last; low = more.low; reads = drafted_on d e (to more.last) line lines one more.reads }

pub reach_same : (most : ℕ) (d : Draft) (lines : List (List ℕ)) (to then : Group → Draft) → ((g : Group) → to g ≡ then g) → Reaches most d lines to → Reaches most d lines then
reach_same most d lines to then same more = record { last = more.last; low = more.low; reads = more.reads ∙ ap Ok (same more.last) }

-- further lines behind those that lead from the beginning
pub reach_more : (most more : ℕ) (front lines : List (List ℕ)) (mid to : Group → Draft) → Reaches most start front mid → ((g : Group) → group_number g ≤ most → Reaches more (mid g) lines to)
    → Reaches more start (front ++ lines) to
reach_more most more front lines mid to first next =
    let then = next first.last first.low in
    record { last = then.last; low = then.low; reads = drafted_both start (mid first.last) (to then.last) front lines first.reads then.reads }

-- a name and a number behind it
pub name_and_number : (name : List ℕ) (n : ℕ) → IsActorName name → n < 2 ^ 64 → actor_field (name ++ 32 ∷ decimal n) ≡ Ok (name, decimal n)
name_and_number name n named below =
    actor_field-next name (32 ∷ decimal n) (name_word name named.0) refl named.0 (bytes_other name (codes "sweep") named.1)
    ∙ ap (λ x. Ok (name, x)) (behind_space (decimal n) (led_last (decimal n) (decimal_word n below)))

module _ (s : Script) (ds : Documents) (done : List Client) (last : Option (List ℕ)) (txns : List TxnPlan) (bound : Bound) (tried : ℕ) where
  abbrev pub run : Group → Actors → Course → Draft
  run g actors c = record {
    group = g;
    settings = all_settings s;
    documents = ds;
    actors = actors;
    clients = record { done = done; last = last; txns = txns; under_way = None; ops = []; bound = bound; tried = tried };
    course = c;
  }

  -- ---- cleaners

  abbrev pub cleaning : List (List ℕ × ℕ) → ℕ → Course
  cleaning cleaners passes = record no_course { cleaners = cleaners; passes = passes }

  module _ (g : Group) (low : group_number g ≤ 3) (actors : Actors) (cleaners : List (List ℕ × ℕ)) (passes : ℕ) (name : List ℕ) (rounds : ℕ) (is : IsCleaner (name, rounds)) where
    abbrev at_cleaner : Draft
    at_cleaner = run g actors (cleaning cleaners passes)

    abbrev past_cleaner : Draft
    past_cleaner = run group.Cleaners (with_actor name actors) (cleaning (cleaners ++ (name, rounds) ∷ []) (passes + rounds * s.atrs))

    cleaner_added : at_key doc_cmp actors name ≡ None → length cleaners < 16 → passes + rounds * s.atrs ≤ 65536
        → add_cleaner s.atrs actors (cleaning cleaners passes) (name ++ 32 ∷ decimal rounds) ≡ both_of (with_actor name actors) (cleaning (cleaners ++ (name, rounds) ∷ []) (passes + rounds * s.atrs))
    unfolding add_cleaner
    cleaner_added new few room =
        let high : rounds ≤ 65536 = is.1.1 in
        let below : rounds < 2 ^ 64 = omega arith in
        ap (λ r. r >>= (λ n. require (not (is_some (at_key doc_cmp actors n.0))) Twice >>= (λ _. number_field 1 65536 n.1 >>= (λ m. end_field m.1
        >>= (λ _. require (ltb (length cleaners) 16 && leb (passes + m.0 * s.atrs) 65536) Limit >>= (λ _. both_of (with_actor n.0 actors) (cleaning (cleaners ++ (n.0, m.0) ∷ []) (passes + m.0 * s.atrs))))))))
        (name_and_number name rounds is.0 below)
        ∙ ap (λ o. require (not (is_some o)) Twice >>= (λ _. number_field 1 65536 (decimal rounds) >>= (λ m. end_field m.1
        >>= (λ _. require (ltb (length cleaners) 16 && leb (passes + m.0 * s.atrs) 65536) Limit >>= (λ _. both_of (with_actor name actors) (cleaning (cleaners ++ (name, m.0) ∷ []) (passes + m.0 * s.atrs))))))) new
        ∙ ap (λ r. r >>= (λ m. end_field m.1
        >>= (λ _. require (ltb (length cleaners) 16 && leb (passes + m.0 * s.atrs) 65536) Limit >>= (λ _. both_of (with_actor name actors) (cleaning (cleaners ++ (name, m.0) ∷ []) (passes + m.0 * s.atrs))))))
        (number_field-last 1 65536 rounds is.1.0 is.1.1 below)
        ∙ ap (λ t. require t Limit >>= (λ _. both_of (with_actor name actors) (cleaning (cleaners ++ (name, rounds) ∷ []) (passes + rounds * s.atrs))))
        (and_from (ltb (length cleaners) 16) (leb (passes + rounds * s.atrs) 65536) (lt-ltb (length cleaners) 16 few) (le-leb (passes + rounds * s.atrs) 65536 room))

    cleaner_taken : at_key doc_cmp actors name ≡ None → length cleaners < 16 → passes + rounds * s.atrs ≤ 65536 → taken at_cleaner (codes "cleaner " ++ name ++ codes " " ++ decimal rounds) ≡ Ok past_cleaner
    unfolding keyword_of cleaner_line
    cleaner_taken new few room =
        let rest = name ++ 32 ∷ decimal rounds in
        ap (λ x. taken at_cleaner (codes "cleaner " ++ x)) (append_assoc name (32 ∷ []) (decimal rounds))
        ∙ line_taken at_cleaner 99 (codes "leaner") rest k.Cleaner refl refl refl (led_word name (32 ∷ decimal rounds) (name_word name is.0.0))
        ∙ ap (λ r. r >>= (λ e. add_cleaner (atrs_of e) e.actors e.course rest >>= (λ both. Ok (record e { actors = both.0; course = both.1 })))) (entered group.Cleaners at_cleaner low)
        ∙ ap (λ (r : Result Both Cause). r >>= (λ both. Ok (run group.Cleaners both.0 both.1))) (cleaner_added new few room)

  pub cleaners_back : (g : Group) (actors : Actors) (cleaners more : List (List ℕ × ℕ)) (passes : ℕ) → group_number g ≤ 3 → All IsCleaner more → AreDistinct (map (λ c. c.0) more)
      → NoneNamed actors (map (λ c. c.0) more) → length cleaners + length more ≤ 16 → passes + rounds_of more * s.atrs ≤ 65536
      → Reaches 3 (run g actors (cleaning cleaners passes)) (cleaner_lines more) (λ h. run h (actors_after (map (λ c. c.0) more) actors) (cleaning (cleaners ++ more) (passes + rounds_of more * s.atrs)))
  cleaners_back g actors cleaners [] passes low all apart none few room =
      let same : passes ≡ passes + 0 * s.atrs = omega arith in
      record { last = g; low = low; reads = ap (λ x. Ok (run g actors (cleaning x passes))) (sym (append-nil cleaners)) ∙ ap (λ n. Ok (run g actors (cleaning (cleaners ++ []) n))) same }
  cleaners_back g actors cleaners (cleaner ∷ more) passes low all apart none few room =
      let is = All-head IsCleaner cleaner more all in
      let name = cleaner.0 in
      let now = with_actor name actors in
      let then = passes + cleaner.1 * s.atrs in
      let e = length-append cleaners (cleaner ∷ []) in
      let same : then + rounds_of more * s.atrs ≡ passes + (cleaner.1 + rounds_of more) * s.atrs = omega arith in
      let enough : then ≤ 65536 = omega arith in
      let ends = actors_after (map (λ c. c.0) more) now in
      reach_on 3 (run g actors (cleaning cleaners passes)) (run group.Cleaners now (cleaning (cleaners ++ cleaner ∷ []) then)) (codes "cleaner " ++ name ++ codes " " ++ decimal cleaner.1) (cleaner_lines more)
      (λ h. run h ends (cleaning (cleaners ++ cleaner ∷ more) (passes + (cleaner.1 + rounds_of more) * s.atrs)))
      (cleaner_taken g low actors cleaners passes name cleaner.1 is none.0 (omega arith) enough)
      (reach_same 3 (run group.Cleaners now (cleaning (cleaners ++ cleaner ∷ []) then)) (cleaner_lines more)
      (λ h. run h ends (cleaning (cleaners ++ cleaner ∷ [] ++ more) (then + rounds_of more * s.atrs))) (λ h. run h ends (cleaning (cleaners ++ cleaner ∷ more) (passes + (cleaner.1 + rounds_of more) * s.atrs)))
      (λ h. ap (λ x. run h ends (cleaning x (then + rounds_of more * s.atrs))) (append_assoc cleaners (cleaner ∷ []) more) ∙ ap (λ n. run h ends (cleaning (cleaners ++ cleaner ∷ more) n)) same)
      (cleaners_back group.Cleaners now (cleaners ++ cleaner ∷ []) more then (omega arith) (All-tail IsCleaner cleaner more all) apart.1
      (none_named_more actors name (map (λ c. c.0) more) apart.0 none.1) (omega arith) (omega arith)))

  -- ---- stops

  -- the actors are known by their names
  module _ (actors : Actors) (names : (n : ℕ) → IsActor s n → IsActorName (name_of s n)) (numbers : (n : ℕ) → IsActor s n → at_key doc_cmp actors (name_of s n) ≡ Some n)
      (cleaners : List (List ℕ × ℕ)) (passes : ℕ) where
    pub known_back : (n : ℕ) → IsActor s n → known_actor actors (name_of s n) ≡ Ok n
    known_back n is = ap known (numbers n is)

    abbrev pub faulty : List (ℕ × ℕ) → List ((ℕ × ℕ) × Fate) → Course
    faulty stops fates = record (cleaning cleaners passes) { stops = stops; faults = record { fates = fates } }

    module _ (g : Group) (low : group_number g ≤ 4) (stops : List (ℕ × ℕ)) (actor call : ℕ) (is : IsStop s (actor, call)) where
      abbrev at_stop : Draft
      at_stop = run g actors (faulty stops [])

      stop_taken : AllBelow nat_cmp stops actor → taken at_stop (printed.fault_line (codes "stop ") s actor call) ≡ Ok (run group.Faults actors (faulty (stops ++ (actor, call) ∷ []) []))
      unfolding keyword_of stop_line add_stop
      stop_taken below =
          let high : call ≤ 1000000 = is.1 in
          let fits : call < 2 ^ 64 = omega arith in
          let name = name_of s actor in
          let named = names actor is.0 in
          let rest = name ++ 32 ∷ decimal call in
          let plain = append-nil stops in
          ap (λ x. taken at_stop (codes "stop " ++ x)) (append_assoc name (32 ∷ []) (decimal call))
          ∙ line_taken at_stop 115 (codes "top") rest k.Stop refl refl refl (led_word name (32 ∷ decimal call) (name_word name named.0))
          ∙ ap (λ r. r >>= (λ e. add_stop e.actors e.course rest >>= (λ c. Ok (record e { course = c })))) (entered group.Faults at_stop low)
          ∙ ap (λ r. (r >>= (λ n. known_actor actors n.0 >>= (λ a. require (not (is_some (at_key nat_cmp stops a))) Twice >>= (λ _. number_field 0 1000000 n.1 >>= (λ m. end_field m.1
          >>= (λ _. Ok (faulty (with_pair nat_cmp stops a m.0) []))))))) >>= (λ c. Ok (run group.Faults actors c))) (name_and_number name call named fits)
          ∙ ap (λ r. (r >>= (λ a. require (not (is_some (at_key nat_cmp stops a))) Twice >>= (λ _. number_field 0 1000000 (decimal call) >>= (λ m. end_field m.1
          >>= (λ _. Ok (faulty (with_pair nat_cmp stops a m.0) [])))))) >>= (λ c. Ok (run group.Faults actors c))) (known_back actor is.0)
          ∙ ap (λ o. (require (not (is_some o)) Twice >>= (λ _. number_field 0 1000000 (decimal call) >>= (λ m. end_field m.1
          >>= (λ _. Ok (faulty (with_pair nat_cmp stops actor m.0) []))))) >>= (λ c. Ok (run group.Faults actors c)))
          (ap (λ x. at_key nat_cmp x actor) (sym plain) ∙ none_between nat_cmp nat_cmp_total stops [] actor below tt)
          ∙ ap (λ r. (r >>= (λ m. end_field m.1 >>= (λ _. Ok (faulty (with_pair nat_cmp stops actor m.0) [])))) >>= (λ c. Ok (run group.Faults actors c)))
          (number_field-last 0 1000000 call (omega arith) high fits)
          ∙ ap (λ x. Ok (run group.Faults actors (faulty x []))) (ap (λ x. with_pair nat_cmp x actor call) (sym plain) ∙ insert_between nat_cmp nat_cmp_total stops [] actor call below tt)

    pub stops_back : (g : Group) (stops more : List (ℕ × ℕ)) → group_number g ≤ 4 → All (IsStop s) more → Rises nat_cmp (stops ++ more)
        → Reaches 4 (run g actors (faulty stops [])) (stop_lines s more) (λ h. run h actors (faulty (stops ++ more) []))
    stops_back g stops [] low all rises = record { last = g; low = low; reads = ap (λ x. Ok (run g actors (faulty x []))) (sym (append-nil stops)) }
    stops_back g stops (stop ∷ more) low all rises =
        let is = All-head (IsStop s) stop more all in
        let e = append_assoc stops (stop ∷ []) more in
        reach_on 4 (run g actors (faulty stops [])) (run group.Faults actors (faulty (stops ++ stop ∷ []) [])) (printed.fault_line (codes "stop ") s stop.0 stop.1) (stop_lines s more)
        (λ h. run h actors (faulty (stops ++ stop ∷ more) [])) (stop_taken g low stops stop.0 stop.1 is (rises_below nat_cmp stops more stop.0 stop.1 rises))
        (reach_same 4 (run group.Faults actors (faulty (stops ++ stop ∷ []) [])) (stop_lines s more) (λ h. run h actors (faulty (stops ++ stop ∷ [] ++ more) [])) (λ h. run h actors (faulty (stops ++ stop ∷ more) []))
        (λ h. ap (λ x. run h actors (faulty x [])) e)
        (stops_back group.Faults (stops ++ stop ∷ []) more (omega arith) (All-tail (IsStop s) stop more all) (subst (Rises nat_cmp) (sym e) rises)))
