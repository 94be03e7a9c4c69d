-- A generated script keeps the rules of scripts.
use Rattle.std.proofs.Common.{◌≡◌, ℕ, ◌+◌, ◌*◌, ◌<◌, ◌≤◌, List, [], ◌∷◌, length, codes, get_or, refl, ap, arith, length-append}
use Rattle.std.specs.List.{All}
use Rattle.std.specs.List.Sorted.{IsStrictlySortedBy}
use Rattle.std.specs.Ordering.{nat_cmp}
use Rattle.std.proofs.lemmas.List.{length-map}
use Rattle.std.proofs.lemmas.List.Elements.{All-nil, All-cons}
use Rattle.rand_pcg.specs.Lcg.{Lcg}
use Rattle.cbt_model.specs.Faults.{call_cmp}
use Rattle.cbt_script.specs.declared.script.Script.{Script}
use Rattle.cbt_script.specs.Rules.{IsCleaner, IsStop, IsFault, IsItem, IsScript, actor_names}
use Rattle.cbt_gen.specs.Draws.{draw, many, stream_of}
use Rattle.cbt_gen.specs.Generated.{client, calls, cleaners, script, generated}
use Rattle.cbt_gen.proofs.AccountRules.{accounts-kept, length-accounts, accounts-distinct}
use Rattle.cbt_gen.proofs.ClientRules.{draw-below, drawn, names, clients-kept, length-clients, tried-drawn, actors-distinct}
use Rattle.cbt_gen.proofs.Many.{values-all}

not_sweep : (behind : List ℕ) → 107 ∷ behind ≡ codes "sweep" → ⊥
not_sweep behind same = let first : 107 ≡ 115 = ap (λ bs. get_or bs 0 0) same in omega (arith, first)

cleaners-kept : All IsCleaner cleaners
cleaners-kept =
    All-cons IsCleaner (codes "k1", 4) ((codes "k2", 4) ∷ []) ((refl, not_sweep (codes "1")), (omega arith, omega arith))
    (All-cons IsCleaner (codes "k2", 4) [] ((refl, not_sweep (codes "2")), (omega arith, omega arith)) (All-nil IsCleaner))

module _ (clients accounts transfers : ℕ) (start : Lcg) where
  abbrev whole : Script
  whole = (script clients accounts transfers start).0

  actors-count : length (actor_names whole) ≡ clients + 2
  actors-count =
      omega (
        arith,
        length-append (names accounts transfers start clients) (codes "k1" ∷ codes "k2" ∷ []),
        length-map (drawn accounts transfers start clients) (λ c. c.0),
        length-clients accounts transfers start clients,
      )

  item-kept : 0 < clients → (k : ℕ) (stream : Lcg) → IsItem whole (calls clients stream).0
  item-kept some k stream =
      let first = draw-below clients stream some in
      let second = draw-below 6 (draw clients stream).1 (omega arith) in
      let count = actors-count in
      ((omega arith, omega (arith, count)), (omega arith, omega arith))

  stops-rise : (actor : ℕ) → IsStrictlySortedBy nat_cmp (actor ∷ [])
  unfolding IsStrictlySortedBy
  stops-rise actor = (tt, tt)

  no-faults-rise : IsStrictlySortedBy call_cmp []
  unfolding IsStrictlySortedBy
  no-faults-rise = tt

  pub whole-kept : 2 ≤ clients → clients ≤ 32 → accounts ≤ 1000 → transfers ≤ 200 → clients * transfers ≤ 400 → IsScript whole
  whole-kept some few fit short within =
      let behind = (many clients (client accounts transfers) start).1 in
      let stop = draw-below 50 behind (omega arith) in
      let count = actors-count in
      record {
        atrs = (omega arith, omega arith);
        expiry = (omega arith, omega arith);
        tries = (omega arith, omega arith);
        lapse = (omega arith, omega arith);
        line = (omega arith, omega arith);
        docs = accounts-kept accounts (omega arith);
        docs_few = omega (arith, length-accounts accounts);
        docs_distinct = accounts-distinct accounts (omega arith);
        clients = clients-kept accounts transfers start short clients;
        clients_few = omega (arith, length-clients accounts transfers start clients);
        tried = omega (arith, tried-drawn accounts transfers start clients);
        cleaners = cleaners-kept;
        cleaners_few = omega arith;
        passes = omega arith;
        actors = actors-distinct accounts transfers start clients (omega arith);
        stops = All-cons (IsStop whole) (1, 10 + (draw 50 behind).0) [] ((omega arith, omega (arith, count)), omega arith) (All-nil (IsStop whole));
        stops_rise = stops-rise 1;
        faults = All-nil (IsFault whole);
        faults_rise = no-faults-rise;
        order = values-all (λ i. calls clients) (draw 50 behind).1 (IsItem whole) (item-kept (omega arith)) 64;
        sweep = omega arith;
      }

pub generated-kept : (seed clients accounts transfers : ℕ) → 2 ≤ clients → clients ≤ 32 → accounts ≤ 1000 → transfers ≤ 200 → clients * transfers ≤ 400
    → IsScript (generated seed clients accounts transfers)
generated-kept seed clients accounts transfers some few fit short within = whole-kept clients accounts transfers (stream_of seed) some few fit short within
