-- How the run goes keeps its rules: cleaners, stops, failing calls, the order and the sweep.
use Rattle.std.proofs.Common.{◌≡◌, ◌≢◌, ℕ, ◌+◌, ◌*◌, ◌<◌, ◌≤◌, true, ◌==◌, ◌&&◌, not, nat_lt, nat_le, is_none, is_some, List, [], ◌∷◌, ◌++◌, length, map, codes, Option, Some, None, Result, Err, bytes_eq, sym, ap, ◌∙◌, subst, arith, append_assoc, length-append}
use Rattle.std.specs.List.{All}
use Rattle.std.specs.List.Sorted.{IsStrictlySortedBy}
use Rattle.std.specs.declared.cmp.Ordering.{Ordering}
use Rattle.std.specs.Ordering.{nat_cmp}
use Rattle.std.specs.Cmp.{IsTotalOrder, on_total, then_total}
use Rattle.std.proofs.Math.Nat.{add-mul}
use Rattle.std.proofs.lemmas.Bool.{and_parts, ltb-true, leb-true}
use Rattle.std.proofs.lemmas.Cmp.{nat_cmp_total}
use Rattle.std.proofs.lemmas.List.{map-append}
use Rattle.std.proofs.lemmas.List.Elements.{All-nil, All-push, All-weaker}
use Rattle.cbt_base.specs.Keyed.{at_key, Rises}
use Rattle.cbt_base.proofs.Maps.{rises-with_pair}
use Rattle.cbt_lex.specs.Lines.{skip_spaces}
use Rattle.cbt_lex.specs.Names.{is_name}
use Rattle.cbt_lex.specs.Words.{words_of}
use Rattle.cbt_model.specs.Faults.{call_cmp}
use Rattle.cbt_model.specs.Keys.{doc_cmp}
use Rattle.cbt_model.specs.declared.events.Fate.{Fate}
use Rattle.cbt_model.specs.declared.events.Fate.TheVariants.{Plain}
use Rattle.cbt_model.specs.declared.events.Item.{Item}
use Rattle.cbt_model.specs.declared.events.Item.TheVariants as item
use Rattle.cbt_script.specs.declared.cause.Cause.{Cause}
use Rattle.cbt_script.specs.declared.cause.Cause.TheVariants.{Form, Name, Twice, Limit}
use Rattle.cbt_script.specs.declared.course.Course.{Course}
use Rattle.cbt_script.specs.Course.{no_course, Actors, with_actor, known_actor, add_cleaner, add_stop, add_fault, parted_by, named_actor, one_call_of, all_calls_of, some_calls_of, ahead_of, counted_calls, calls_of, led_by_plus, item_of, add_item, add_items, some_items, add_order, set_sweep}
use Rattle.cbt_script.specs.Fields.{actor_field, number_in, number_field}
use Rattle.cbt_script.specs.Rules.{IsWithin, IsActorName, IsCleaner, rounds_of, IsSweep}
use Rattle.cbt_script.specs.Settings.{max_ms}
use Rattle.cbt_script.proofs.RulesOfFields.{Keeps, Field, keeps-bind, keeps-cond, keeps-required, keeps-ended, actor-kept, number-kept, number_in-kept}
use Rattle.cbt_script.proofs.RulesOfNames.{AreActors, actors-push, actor-number, all-with_pair}

-- calls stand by their actor, and then by their number
call-order : IsTotalOrder call_cmp
call-order = then_total (on_total (λ (p : ℕ × ℕ). p.0) nat_cmp_total) (on_total (λ (p : ℕ × ℕ). p.1) nat_cmp_total)

-- ---- the rules, where there are so many actors

abbrev pub IsStopIn : ℕ → ℕ × ℕ → Type 0
IsStopIn most stop = IsWithin 1 most stop.0 × (stop.1 ≤ 1000000)

abbrev pub IsCallIn : ℕ → ℕ × ℕ → Type 0
IsCallIn most call = IsWithin 1 most call.0 × IsWithin 1 1000000 call.1

abbrev pub IsFaultIn : ℕ → (ℕ × ℕ) × Fate → Type 0
IsFaultIn most fault = IsCallIn most fault.0 × (fault.1 ≢ Plain)

abbrev pub IsItemIn : ℕ → Item → Type 0
IsItemIn most (item.Calls actor k) = IsWithin 1 most actor × IsWithin 1 1000000 k
IsItemIn most (item.All actor) = IsWithin 1 most actor
IsItemIn most (item.Ahead ms) = ms ≤ max_ms

pub record IsCourse (atrs most : ℕ) (c : Course) : Type 0 where
  pub cleaners : All IsCleaner c.cleaners
  pub cleaners_few : length c.cleaners ≤ 16
  pub passes : c.passes ≡ rounds_of c.cleaners * atrs
  pub passes_few : c.passes ≤ 65536
  pub stops : All (IsStopIn most) c.stops
  pub stops_rise : Rises nat_cmp c.stops
  pub faults : All (IsFaultIn most) c.faults.fates
  pub faults_rise : Rises call_cmp c.faults.fates
  pub order : All (IsItemIn most) c.order
  pub sweep : IsSweep c.sweep

none-rise : (K V : Type 0) (cmp : K → K → Ordering) → Rises {V = V} cmp []
unfolding IsStrictlySortedBy
none-rise K V cmp = tt

pub no-course : (atrs most : ℕ) → IsCourse atrs most no_course
no-course atrs most = record {
  cleaners = All-nil IsCleaner;
  cleaners_few = omega arith;
  passes = omega arith;
  passes_few = omega arith;
  stops = All-nil (IsStopIn most);
  stops_rise = none-rise ℕ ℕ nat_cmp;
  faults = All-nil (IsFaultIn most);
  faults_rise = none-rise (ℕ × ℕ) Fate call_cmp;
  order = All-nil (IsItemIn most);
  sweep = tt;
}

more-actors : (most more n : ℕ) → most ≤ more → IsWithin 1 most n → IsWithin 1 more n
more-actors most more n le is = let l : n ≤ most = is.1 in (is.0, omega arith)

item-more : (most more : ℕ) → most ≤ more → (i : Item) → IsItemIn most i → IsItemIn more i
item-more most more le (item.Calls actor k) is = (more-actors most more actor le is.0, is.1)
item-more most more le (item.All actor) is = more-actors most more actor le is
item-more most more le (item.Ahead ms) is = is

-- with more actors
pub course-more : (atrs most more : ℕ) (c : Course) → most ≤ more → IsCourse atrs most c → IsCourse atrs more c
course-more atrs most more c le is = record {
  cleaners = is.cleaners;
  cleaners_few = is.cleaners_few;
  passes = is.passes;
  passes_few = is.passes_few;
  stops = All-weaker (IsStopIn most) (IsStopIn more) (λ s at. (more-actors most more s.0 le at.0, at.1)) c.stops is.stops;
  stops_rise = is.stops_rise;
  faults = All-weaker (IsFaultIn most) (IsFaultIn more) (λ f at. ((more-actors most more f.0.0 le at.0.0, at.0.1), at.1)) c.faults.fates is.faults;
  faults_rise = is.faults_rise;
  order = All-weaker (IsItemIn most) (IsItemIn more) (item-more most more le) c.order is.order;
  sweep = is.sweep;
}

-- with another count of records, before the first cleaner
pub course-without : (atrs other most : ℕ) (c : Course) → c.cleaners ≡ [] → IsCourse atrs most c → IsCourse other most c
course-without atrs other most c none is =
    let first : c.passes ≡ rounds_of c.cleaners * atrs = is.passes in
    record {
      cleaners = is.cleaners;
      cleaners_few = is.cleaners_few;
      passes = first ∙ ap (λ cs. rounds_of cs * atrs) none ∙ zeros atrs other ∙ ap (λ cs. rounds_of cs * other) (sym none);
      passes_few = is.passes_few;
      stops = is.stops;
      stops_rise = is.stops_rise;
      faults = is.faults;
      faults_rise = is.faults_rise;
      order = is.order;
      sweep = is.sweep;
    }
  where
    zeros : (m n : ℕ) → 0 * m ≡ 0 * n
    zeros m n = omega arith

-- ---- cleaners

rounds-push : (cleaners : List (List ℕ × ℕ)) (cleaner : List ℕ × ℕ) → rounds_of (cleaners ++ cleaner ∷ []) ≡ rounds_of cleaners + cleaner.1
rounds-push [] cleaner = omega arith
rounds-push (x ∷ xs) cleaner = let ih : rounds_of (xs ++ cleaner ∷ []) ≡ rounds_of xs + cleaner.1 = rounds-push xs cleaner in omega arith

-- a cleaner more, and its name among the actors
abbrev pub CleanerAdded : ℕ → List (List ℕ) → Actors × Course → Type 0
CleanerAdded atrs clients both = AreActors both.0 (clients ++ map (λ c. c.0) both.1.cleaners) × IsCourse atrs (length (clients ++ map (λ c. c.0) both.1.cleaners)) both.1

-- the pushed cleaner's rounds add to the passes
passes-push : (passes rounds more atrs : ℕ) → passes ≡ rounds * atrs → passes + more * atrs ≡ (rounds + more) * atrs
passes-push passes rounds more atrs is = ap (λ p. p + more * atrs) is ∙ sym (add-mul rounds more atrs)

cleaner-pushed : (atrs : ℕ) (clients : List (List ℕ)) (actors : Actors) (c : Course) (name : List ℕ) (rounds : ℕ) → CleanerAdded atrs clients (actors, c)
    → IsActorName name → IsWithin 1 65536 rounds → not (is_some (at_key doc_cmp actors name)) ≡ true
    → (nat_lt (length c.cleaners) 16 ≡ true) × (nat_le (c.passes + rounds * atrs) 65536 ≡ true)
    → CleanerAdded atrs clients (with_actor name actors, record c { cleaners = c.cleaners ++ (name, rounds) ∷ []; passes = c.passes + rounds * atrs })
cleaner-pushed atrs clients actors c name rounds is named good new room =
    let f = λ (x : List ℕ × ℕ). x.0 in
    let before = clients ++ map f c.cleaners in
    let course = is.1 in
    let some : length c.cleaners < 16 = ltb-true (length c.cleaners) 16 room.0 in
    let names : clients ++ map f (c.cleaners ++ (name, rounds) ∷ []) ≡ before ++ name ∷ [] =
    ap (λ xs. clients ++ xs) (map-append f c.cleaners ((name, rounds) ∷ [])) ∙ sym (append_assoc clients (map f c.cleaners) (name ∷ [])) in
    let longer : length (clients ++ map f (c.cleaners ++ (name, rounds) ∷ [])) ≡ length before + 1 = ap length names ∙ length-append before (name ∷ []) in
    let next = record c { cleaners = c.cleaners ++ (name, rounds) ∷ []; passes = c.passes + rounds * atrs } in
    let kept : IsCourse atrs (length before) next = record {
      cleaners = All-push IsCleaner c.cleaners (name, rounds) course.cleaners (named, good);
      cleaners_few = omega (arith, length-append c.cleaners ((name, rounds) ∷ []));
      passes = passes-push c.passes (rounds_of c.cleaners) rounds atrs course.passes ∙ ap (λ n. n * atrs) (sym (rounds-push c.cleaners (name, rounds)));
      passes_few = leb-true (c.passes + rounds * atrs) 65536 room.1;
      stops = course.stops;
      stops_rise = course.stops_rise;
      faults = course.faults;
      faults_rise = course.faults_rise;
      order = course.order;
      sweep = course.sweep;
    } in
    (subst (AreActors (with_actor name actors)) (sym names) (actors-push actors before name is.0 new), course-more atrs (length before) (length (clients ++ map f (c.cleaners ++ (name, rounds) ∷ []))) next (omega arith) kept)

pub cleaner-kept : (atrs : ℕ) (clients : List (List ℕ)) (actors : Actors) (c : Course) (rest : List ℕ)
    → CleanerAdded atrs clients (actors, c) → Keeps (CleanerAdded atrs clients) (add_cleaner atrs actors c rest)
unfolding add_cleaner
cleaner-kept atrs clients actors c rest is =
    let P = CleanerAdded atrs clients in
    keeps-bind (Field IsActorName rest) P (actor_field rest) _ (actor-kept rest)
    (λ name named. keeps-required P (not (is_some (at_key doc_cmp actors name.0))) Twice _
    (λ new. keeps-bind (λ n. IsWithin 1 65536 n.0) P (number_field 1 65536 name.1) _ (number-kept 1 65536 name.1)
    (λ rounds good. keeps-ended P rounds.1 _
    (keeps-required P (nat_lt (length c.cleaners) 16 && nat_le (c.passes + rounds.0 * atrs) 65536) Limit _
    (λ room. cleaner-pushed atrs clients actors c name.0 rounds.0 is named.0 good new (and_parts (nat_lt (length c.cleaners) 16) (nat_le (c.passes + rounds.0 * atrs) 65536) room))))))

-- ---- stops and failing calls

pub stop-kept : (atrs : ℕ) (names : List (List ℕ)) (actors : Actors) (c : Course) (rest : List ℕ) → AreActors actors names → IsCourse atrs (length names) c
    → Keeps (IsCourse atrs (length names)) (add_stop actors c rest)
unfolding add_stop
stop-kept atrs names actors c rest are is =
    let P = IsCourse atrs (length names) in
    keeps-bind (Field IsActorName rest) P (actor_field rest) _ (actor-kept rest)
    (λ name named. keeps-bind (IsWithin 1 (length names)) P (known_actor actors name.0) _ (actor-number actors names name.0 are)
    (λ actor within. keeps-required P (not (is_some (at_key nat_cmp c.stops actor))) Twice _
    (λ new. keeps-bind (λ n. IsWithin 0 1000000 n.0) P (number_field 0 1000000 name.1) _ (number-kept 0 1000000 name.1)
    (λ call good. keeps-ended P call.1 _ (record {
      cleaners = is.cleaners;
      cleaners_few = is.cleaners_few;
      passes = is.passes;
      passes_few = is.passes_few;
      stops = all-with_pair nat_cmp (IsWithin 1 (length names)) (λ n. n ≤ 1000000) c.stops actor call.0 is.stops within good.1;
      stops_rise = rises-with_pair nat_cmp nat_cmp_total c.stops actor call.0 is.stops_rise;
      faults = is.faults;
      faults_rise = is.faults_rise;
      order = is.order;
      sweep = is.sweep;
    })))))

pub fault-kept : (fate : Fate) → (fate ≢ Plain) → (atrs : ℕ) (names : List (List ℕ)) (actors : Actors) (c : Course) (rest : List ℕ) → AreActors actors names → IsCourse atrs (length names) c
    → Keeps (IsCourse atrs (length names)) (add_fault fate actors c rest)
unfolding add_fault
fault-kept fate bad atrs names actors c rest are is =
    let P = IsCourse atrs (length names) in
    keeps-bind (Field IsActorName rest) P (actor_field rest) _ (actor-kept rest)
    (λ name named. keeps-bind (IsWithin 1 (length names)) P (known_actor actors name.0) _ (actor-number actors names name.0 are)
    (λ actor within. keeps-bind (λ n. IsWithin 1 1000000 n.0) P (number_field 1 1000000 name.1) _ (number-kept 1 1000000 name.1)
    (λ call good. keeps-required P (not (is_some (at_key call_cmp c.faults.fates (actor, call.0)))) Twice _
    (λ new. keeps-ended P call.1 _ (record {
      cleaners = is.cleaners;
      cleaners_few = is.cleaners_few;
      passes = is.passes;
      passes_few = is.passes_few;
      stops = is.stops;
      stops_rise = is.stops_rise;
      faults = all-with_pair call_cmp (IsCallIn (length names)) (λ f. f ≢ Plain) c.faults.fates (actor, call.0) fate is.faults (within, good) bad;
      faults_rise = rises-with_pair call_cmp call-order c.faults.fates (actor, call.0) fate is.faults_rise;
      order = is.order;
      sweep = is.sweep;
    })))))

-- ---- the order

module _ (names : List (List ℕ)) (actors : Actors) (are : AreActors actors names) where
  abbrev IsGood : Item → Type 0
  IsGood = IsItemIn (length names)

  named-number : (name : List ℕ) → Keeps (IsWithin 1 (length names)) (named_actor actors name)
  unfolding named_actor
  named-number name =
      keeps-required (IsWithin 1 (length names)) (is_name name && not (bytes_eq name (codes "sweep"))) Name (known_actor actors name) (λ e. actor-number actors names name are)

  one-kept : (name : List ℕ) → Keeps IsGood (one_call_of actors name)
  unfolding one_call_of
  one-kept name = keeps-bind (IsWithin 1 (length names)) IsGood (named_actor actors name) _ (named-number name) (λ actor is. (is, (omega arith, omega arith)))

  all-kept : (name : List ℕ) → Keeps IsGood (all_calls_of actors name)
  unfolding all_calls_of
  all-kept name = keeps-bind (IsWithin 1 (length names)) IsGood (named_actor actors name) _ (named-number name) (λ actor is. is)

  some-kept : (name count : List ℕ) → Keeps IsGood (some_calls_of actors name count)
  unfolding some_calls_of
  some-kept name count =
      keeps-bind (IsWithin 1 (length names)) IsGood (named_actor actors name) _ (named-number name)
      (λ actor is. keeps-bind (IsWithin 1 1000000) IsGood (number_in 1 1000000 count) _ (number_in-kept 1 1000000 count) (λ k good. (is, good)))

  ahead-kept : (ms : List ℕ) → Keeps IsGood (ahead_of ms)
  unfolding ahead_of
  ahead-kept ms = keeps-bind (IsWithin 0 max_ms) IsGood (number_in 0 max_ms ms) _ (number_in-kept 0 max_ms ms) (λ n good. good.1)

  counted-kept : (word : List ℕ) (parts : Option (List ℕ × List ℕ)) → Keeps IsGood (counted_calls actors word parts)
  counted-kept word None = one-kept word
  counted-kept word (Some parts) =
      keeps-cond IsGood (length parts.1 == 0) (all_calls_of actors parts.0) (some_calls_of actors parts.0 parts.1) (λ e. all-kept parts.0) (λ e. some-kept parts.0 parts.1)

  led-kept : (parts : Option (List ℕ × List ℕ)) (other : Result Item Cause) → Keeps IsGood other → Keeps IsGood (led_by_plus parts other)
  led-kept None other is = is
  led-kept (Some parts) other is = keeps-cond IsGood (length parts.0 == 0) (ahead_of parts.1) other (λ e. ahead-kept parts.1) (λ e. is)

  item-kept : (word : List ℕ) → Keeps IsGood (item_of actors word)
  item-kept word = led-kept (parted_by 43 word) (calls_of actors word) (counted-kept word (parted_by 42 word))

  module _ (atrs : ℕ) where
    abbrev P : Course → Type 0
    P = IsCourse atrs (length names)

    item-added : (c : Course) (word : List ℕ) → P c → Keeps P (add_item actors c word)
    unfolding add_item
    item-added c word is =
        keeps-bind IsGood P (item_of actors word) _ (item-kept word)
        (λ i good. record {
          cleaners = is.cleaners;
          cleaners_few = is.cleaners_few;
          passes = is.passes;
          passes_few = is.passes_few;
          stops = is.stops;
          stops_rise = is.stops_rise;
          faults = is.faults;
          faults_rise = is.faults_rise;
          order = All-push IsGood c.order i is.order good;
          sweep = is.sweep;
        })

    items-added : (words : List (List ℕ)) (c : Course) → P c → Keeps P (add_items actors c words)
    items-added [] c is = is
    items-added (word ∷ words) c is = keeps-bind P P (add_item actors c word) (λ d. add_items actors d words) (item-added c word is) (λ d then. items-added words d then)

    some-added : (c : Course) (text : List ℕ) → P c → Keeps P (some_items actors c text)
    some-added c text is = keeps-cond P (length text == 0) (Err Form) (add_items actors c (words_of text)) (λ e. tt) (λ e. items-added (words_of text) c is)

    pub order-kept : (c : Course) (rest : List ℕ) → P c → Keeps P (add_order actors c rest)
    order-kept c rest is = some-added c (skip_spaces rest) is

-- ---- the sweep

pub sweep-kept : (atrs most : ℕ) (c : Course) (rest : List ℕ) → IsCourse atrs most c → Keeps (IsCourse atrs most) (set_sweep c rest)
unfolding set_sweep
sweep-kept atrs most c rest is =
    keeps-required (IsCourse atrs most) (is_none c.sweep) Twice _
    (λ new. keeps-bind (λ n. IsWithin 0 max_ms n.0) (IsCourse atrs most) (number_field 0 max_ms rest) _ (number-kept 0 max_ms rest)
    (λ ms good. keeps-ended (IsCourse atrs most) ms.1 _ (record {
      cleaners = is.cleaners;
      cleaners_few = is.cleaners_few;
      passes = is.passes;
      passes_few = is.passes_few;
      stops = is.stops;
      stops_rise = is.stops_rise;
      faults = is.faults;
      faults_rise = is.faults_rise;
      order = is.order;
      sweep = good.1;
    })))
