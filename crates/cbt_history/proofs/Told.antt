-- The numbers that replies tell have 64 bits, where those of the opening have them and the events are few enough.
use Rattle.std.proofs.Common.{◌≡◌, ℕ, ◌+◌, ◌-◌, ◌^◌, ◌<◌, ◌≤◌, max, Bool, true, false, cond, nat_eq, List, [], ◌∷◌, length, Option, Some, None, refl, arith}
use Rattle.std.specs.declared.cmp.Ordering.{Ordering}
use Rattle.std.specs.declared.cmp.Ordering.TheVariants.{Less, Equal, Greater}
use Rattle.std.specs.BTreeMap.{insert_entry, is_at}
use Rattle.std.specs.List.{AllByRecursion, cons_option}
use Rattle.std.specs.Map.{lookup, remove_entry}
use Rattle.std.specs.Ordering.{match_ordering}
use Rattle.cbt_base.proofs.Stamps.{clock_of-le}
use Rattle.cbt_base.specs.Clock.{clock_mutated}
use Rattle.cbt_base.specs.Keyed.{with_pair, without_key}
use Rattle.cbt_json.specs.declared.value.Json.{Json}
use Rattle.cbt_model.specs.History.{by_fate, row_at_event, outcome, happens}
use Rattle.cbt_model.specs.Keys.{doc_cmp, entry_cmp, id_cmp, doc_at, entry_at}
use Rattle.cbt_model.specs.Table.{Change, Nothing, SetsDoc, SetsEntry, DropsEntry, SetsClients, Row, refused, takes, changed, stage_row, publish_row, delete_row, unstick_row, read_doc_row, read_entry_row, add_entry_row, decide_row, drop_entry_row, is_pending, may_drop, entries_of, without_gone, row}
use Rattle.cbt_model.specs.declared.documents.DocState.{DocState}
use Rattle.cbt_model.specs.declared.documents.Stage.{Stage}
use Rattle.cbt_model.specs.declared.entries.ClientRow.{ClientRow}
use Rattle.cbt_model.specs.declared.entries.Entry.{Entry}
use Rattle.cbt_model.specs.declared.entries.EntryState.{EntryState}
use Rattle.cbt_model.specs.declared.entries.EntryState.TheVariants.{Committed, Aborted}
use Rattle.cbt_model.specs.declared.entries.Lists.{Lists}
use Rattle.cbt_model.specs.declared.events.Event.{Event}
use Rattle.cbt_model.specs.declared.events.Fate.{Fate}
use Rattle.cbt_model.specs.declared.events.Fate.TheVariants.{Plain, Lost, Late}
use Rattle.cbt_model.specs.declared.states.State.{State}
use Rattle.cbt_model.specs.declared.steps.Expect.{Expect}
use Rattle.cbt_model.specs.declared.steps.Expect.TheVariants as expect
use Rattle.cbt_model.specs.declared.steps.Reply.TheVariants as reply
use Rattle.cbt_model.specs.declared.steps.Step.{Step}
use Rattle.cbt_model.specs.declared.steps.Step.TheVariants as step
use Rattle.cbt_history.specs.Rules.{Is64, IsTold, IsEvent, IsOpening, AreEvents}

-- ---- maps

module _ {K V : Type 0} where
  -- each value of a map
  abbrev AllOf : (V → Type 0) → List (K × V) → Type 0
  AllOf P m = AllByRecursion (λ (e : K × V). P e.1) m

  with_all_if : (P : V → Type 0) (o : Ordering) (k : K) (v : V) (e : K × V) (es more : List (K × V)) → P v → P e.1 → AllOf P es → AllOf P more
      → AllOf P (match_ordering o ((k, v) ∷ e ∷ es) ((e.0, v) ∷ es) (e ∷ more))
  with_all_if P Less k v e es more new first behind grown = (new, (first, behind))
  with_all_if P Equal k v e es more new first behind grown = (new, behind)
  with_all_if P Greater k v e es more new first behind grown = (first, grown)

  with_all : (P : V → Type 0) (cmp : K → K → Ordering) (m : List (K × V)) (k : K) (v : V) → P v → AllOf P m → AllOf P (with_pair cmp m k v)
  with_all P cmp [] k v new all = (new, tt)
  with_all P cmp (e ∷ es) k v new all = with_all_if P (cmp k e.0) k v e es (insert_entry cmp es k v) new all.0 all.1 (with_all P cmp es k v new all.1)

  with_long_if : (o : Ordering) (k : K) (v : V) (e : K × V) (es more : List (K × V)) → length more ≤ length es + 1
      → length (match_ordering o ((k, v) ∷ e ∷ es) ((e.0, v) ∷ es) (e ∷ more)) ≤ length es + 1 + 1
  with_long_if Less k v e es more few = omega arith
  with_long_if Equal k v e es more few = omega arith
  with_long_if Greater k v e es more few = omega arith

  with_long : (cmp : K → K → Ordering) (m : List (K × V)) (k : K) (v : V) → length (with_pair cmp m k v) ≤ length m + 1
  with_long cmp [] k v = omega arith
  with_long cmp (e ∷ es) k v = let l = with_long_if (cmp k e.0) k v e es (insert_entry cmp es k v) (with_long cmp es k v) in omega arith

  without_long_if : (b : Bool) (e : K × V) (es less : List (K × V)) → length less ≤ length es → length (cond b es (e ∷ less)) ≤ length es + 1
  without_long_if true e es less few = omega arith
  without_long_if false e es less few = omega arith

  without_long : (test : K → Bool) (m : List (K × V)) → length (remove_entry test m) ≤ length m
  without_long test [] = omega arith
  without_long test (e ∷ es) = let l = without_long_if (test e.0) e es (remove_entry test es) (without_long test es) in omega arith

-- ---- what a row tells and changes

abbrev IsLow : Option DocState → Type 0
IsLow None = Unit {0}
IsLow (Some d) = Is64 d.cas

abbrev AreLow : List (List ℕ × DocState) → Type 0
AreLow docs = AllByRecursion (λ (d : List ℕ × DocState). Is64 d.1.cas) docs

found_low_if : (b : Bool) (d : List ℕ × DocState) (o : Option DocState) → Is64 d.1.cas → IsLow o → IsLow (cond b (Some d.1) o)
found_low_if true d o first more = first
found_low_if false d o first more = more

found_low : (test : List ℕ → Bool) (docs : List (List ℕ × DocState)) → AreLow docs → IsLow (lookup test docs)
found_low test [] all = tt
found_low test (d ∷ docs) all = found_low_if (test d.0) d (lookup test docs) all.0 (found_low test docs all.1)

-- a change after which stamps have 64 bits, and at most one row is new
abbrev IsSmall : ℕ → Change → Type 0
IsSmall clients Nothing = Unit {0}
IsSmall clients (SetsDoc doc d) = Is64 d.cas
IsSmall clients (SetsEntry key e) = Unit {0}
IsSmall clients (DropsEntry key) = Unit {0}
IsSmall clients (SetsClients rows) = length rows ≤ clients + 1

record Fits (clients : ℕ) (it : Row) : Type 0 where
  pub told : IsTold it.reply
  pub small : IsSmall clients it.change

module _ (n c : ℕ) (low : Is64 c) where
  either : (b : Bool) (one two : Row) → Fits n one → Fits n two → Fits n (cond b one two)
  either true one two first second = first
  either false one two first second = second

  -- one document's stamp, where it is another
  mismatch : (have : ℕ) → Is64 have → Fits n (refused (reply.CasMismatch have))
  mismatch have fits = record { told = fits; small = tt }

  sets : (doc : List ℕ) (d : DocState) → d.cas ≡ c → Fits n (takes c (SetsDoc doc d))
  sets doc d same = record { told = low; small = omega arith }

  read_doc_fits : (o : Option DocState) → IsLow o → Fits n (read_doc_row o)
  read_doc_fits None is = record { told = tt; small = tt }
  read_doc_fits (Some d) is = record { told = is; small = tt }

  stage_fits_64 : (doc : List ℕ) (e : Expect) (stage : Stage) (o : Option DocState) → IsLow o → Fits n (stage_row c doc e stage o)
  stage_fits_64 doc expect.New stage (Some d) is = record { told = tt; small = tt }
  stage_fits_64 doc expect.New stage None is = record { told = low; small = low }
  stage_fits_64 doc (expect.Cas x) stage None is = record { told = tt; small = tt }
  stage_fits_64 doc (expect.Cas x) stage (Some d) is = either (nat_eq d.cas x) _ _ (sets doc _ refl) (mismatch d.cas is)

  publish_fits : (doc : List ℕ) (x : ℕ) (body : Json) (o : Option DocState) → IsLow o → Fits n (publish_row c doc x body o)
  publish_fits doc x body None is = mismatch 0 (omega arith)
  publish_fits doc x body (Some d) is = either (nat_eq d.cas x) _ _ (sets doc _ refl) (mismatch d.cas is)

  delete_fits : (doc : List ℕ) (x : ℕ) (o : Option DocState) → IsLow o → Fits n (delete_row c doc x o)
  delete_fits doc x None is = mismatch 0 (omega arith)
  delete_fits doc x (Some d) is = either (nat_eq d.cas x) _ _ (sets doc _ refl) (mismatch d.cas is)

  unstick_fits : (doc : List ℕ) (x : ℕ) (o : Option DocState) → IsLow o → Fits n (unstick_row c doc x o)
  unstick_fits doc x None is = mismatch 0 (omega arith)
  unstick_fits doc x (Some d) is = either (nat_eq d.cas x) _ _ (sets doc _ refl) (mismatch d.cas is)

  read_entry_fits : (o : Option Entry) → Fits n (read_entry_row o)
  read_entry_fits None = record { told = tt; small = tt }
  read_entry_fits (Some e) = record { told = tt; small = tt }

  add_entry_fits : (key : ℕ × ℕ) (exp : ℕ) (o : Option Entry) → Fits n (add_entry_row c key exp o)
  add_entry_fits key exp None = record { told = low; small = tt }
  add_entry_fits key exp (Some e) = record { told = tt; small = tt }

  decide_fits : (key : ℕ × ℕ) (state : EntryState) (lists : Lists) (o : Option Entry) → Fits n (decide_row c key state lists o)
  decide_fits key state lists None = record { told = tt; small = tt }
  decide_fits key state lists (Some e) = either (is_pending e.state) _ _ (record { told = low; small = tt }) (record { told = tt; small = tt })

  drop_fits : (key : ℕ × ℕ) (guarded : Bool) (o : Option Entry) → Fits n (drop_entry_row c key guarded o)
  drop_fits key guarded None = record { told = tt; small = tt }
  drop_fits key guarded (Some e) = either (may_drop guarded e.state) _ _ (record { told = low; small = tt }) (record { told = tt; small = tt })

-- the entries of one transaction record are no more than all
few_if : (b : Bool) (e : ℕ × Entry) (es : List (ℕ × Entry)) (n : ℕ) → length es ≤ n → length (cons_option (cond b (Some e) None) es) ≤ n + 1
few_if true e es n few = omega arith
few_if false e es n few = omega arith

few_entries : (atr : ℕ) (entries : List ((ℕ × ℕ) × Entry)) → length (entries_of atr entries) ≤ length entries
few_entries atr [] = omega arith
few_entries atr (e ∷ es) = let l = few_if (nat_eq e.0.0 atr) (e.0.1, e.1) (entries_of atr es) (length es) (few_entries atr es) in omega arith

gone_if : (b : Bool) (id : ℕ) (rows : List (ℕ × ClientRow)) → length (cond b rows (without_key id_cmp rows id)) ≤ length rows
gone_if true id rows = omega arith
gone_if false id rows = without_long (is_at (id_cmp id)) rows

few_rows : (me : ℕ) (gone : List ℕ) (rows : List (ℕ × ClientRow)) → length (without_gone me gone rows) ≤ length rows
few_rows me [] rows = omega arith
few_rows me (id ∷ gone) rows =
    let l = few_rows me gone (cond (nat_eq id me) rows (without_key id_cmp rows id)) in let g = gone_if (nat_eq id me) id rows in omega arith

-- ---- a state, and so many events to come

record IsReady (n : ℕ) (s : State) : Type 0 where
  pub last : max s.last (2 ^ 63) + n < 2 ^ 64
  pub docs : AreLow s.docs
  pub entries : length s.entries + n < 2 ^ 64
  pub clients : length s.clients + n < 2 ^ 64

stamp_low : (n : ℕ) (s : State) (r : ℕ) → IsReady (n + 1) s → Is64 (clock_mutated s.last r)
stamp_low n s r is = let l = is.last in let c = clock_of-le r in omega arith

row_fits : (n : ℕ) (s : State) (c : ℕ) (st : Step) → Is64 c → IsReady (n + 1) s → Fits (length s.clients) (row s c st)
unfolding row
row_fits n s c (step.ReadDoc doc) low is = read_doc_fits (length s.clients) c low (doc_at s doc) (found_low (is_at (doc_cmp doc)) s.docs is.docs)
row_fits n s c (step.Stage doc e stage) low is = stage_fits_64 (length s.clients) c low doc e stage (doc_at s doc) (found_low (is_at (doc_cmp doc)) s.docs is.docs)
row_fits n s c (step.Publish doc x body) low is = publish_fits (length s.clients) c low doc x body (doc_at s doc) (found_low (is_at (doc_cmp doc)) s.docs is.docs)
row_fits n s c (step.Delete doc x) low is = delete_fits (length s.clients) c low doc x (doc_at s doc) (found_low (is_at (doc_cmp doc)) s.docs is.docs)
row_fits n s c (step.Unstick doc x) low is = unstick_fits (length s.clients) c low doc x (doc_at s doc) (found_low (is_at (doc_cmp doc)) s.docs is.docs)
row_fits n s c (step.ReadEntry atr attempt) low is = read_entry_fits (length s.clients) c low (entry_at s (atr, attempt))
row_fits n s c (step.AddEntry atr attempt exp) low is = add_entry_fits (length s.clients) c low (atr, attempt) exp (entry_at s (atr, attempt))
row_fits n s c (step.Commit atr attempt lists) low is = decide_fits (length s.clients) c low (atr, attempt) Committed lists (entry_at s (atr, attempt))
row_fits n s c (step.Abort atr attempt lists) low is = decide_fits (length s.clients) c low (atr, attempt) Aborted lists (entry_at s (atr, attempt))
row_fits n s c (step.DropEntry atr attempt guarded) low is = drop_fits (length s.clients) c low (atr, attempt) guarded (entry_at s (atr, attempt))
row_fits n s c (step.ReadAtr atr) low is = record { told = (let e = is.entries in let f = few_entries atr s.entries in omega arith); small = tt }
row_fits n s c step.ReadClients low is = record { told = (let e = is.clients in omega arith); small = tt }
row_fits n s c (step.Beat me expires num gone) low is =
    let rows = with_pair id_cmp s.clients me (record { heartbeat = c; expires = expires; num_atrs = num }) in
    let w : length rows ≤ length s.clients + 1 = with_long id_cmp s.clients me (record { heartbeat = c; expires = expires; num_atrs = num }) in
    let f = few_rows me gone rows in
    record { told = low; small = omega arith }

changes_ready : (n : ℕ) (s : State) (r : ℕ) (change : Change) → IsReady (n + 1) s → IsSmall (length s.clients) change → IsReady n (changed s r change)
changes_ready n s r Nothing is small = record {
  last = (let l = is.last in let c = clock_of-le r in omega arith);
  docs = is.docs;
  entries = (let e = is.entries in omega arith);
  clients = (let e = is.clients in omega arith);
}
changes_ready n s r (SetsDoc doc d) is small = record {
  last = (let l = is.last in let c = clock_of-le r in omega arith);
  docs = with_all (λ (x : DocState). Is64 x.cas) doc_cmp s.docs doc d small is.docs;
  entries = (let e = is.entries in omega arith);
  clients = (let e = is.clients in omega arith);
}
changes_ready n s r (SetsEntry key entry) is small = record {
  last = (let l = is.last in let c = clock_of-le r in omega arith);
  docs = is.docs;
  entries = (let e = is.entries in let w = with_long entry_cmp s.entries key entry in omega arith);
  clients = (let e = is.clients in omega arith);
}
changes_ready n s r (DropsEntry key) is small = record {
  last = (let l = is.last in let c = clock_of-le r in omega arith);
  docs = is.docs;
  entries = (let e = is.entries in let w = without_long (is_at (entry_cmp key)) s.entries in omega arith);
  clients = (let e = is.clients in omega arith);
}
changes_ready n s r (SetsClients rows) is small = record {
  last = (let l = is.last in let c = clock_of-le r in omega arith);
  docs = is.docs;
  entries = (let e = is.entries in omega arith);
  clients = (let e = is.clients in omega arith);
}

by_fate_fits : (n : ℕ) (f : Fate) (it : Row) → Fits n it → Fits n (by_fate f it)
by_fate_fits n Plain it fits = fits
by_fate_fits n Lost it fits = record { told = tt; small = tt }
by_fate_fits n Late it fits = record { told = tt; small = fits.small }

outcome_fits : (n : ℕ) (s : State) (e : Event) → IsReady (n + 1) s → Fits (length s.clients) (outcome s e)
outcome_fits n s e is =
    let c = clock_mutated s.last e.reading in
    by_fate_fits (length s.clients) e.fate (row_at_event s e) (row_fits n s c e.step (stamp_low n s e.reading is) is)

are_told : (s : State) (events : List Event) → IsReady (length events) s → AllByRecursion IsEvent events → AreEvents s events
are_told s [] is all = tt
are_told s (e ∷ events) is all =
    let ready : IsReady (length events + 1) s = record { last = (let l = is.last in omega arith); docs = is.docs; entries = (let l = is.entries in omega arith); clients = (let l = is.clients in omega arith) } in
    let fits = outcome_fits (length events) s e ready in
    (all.0, fits.told, are_told (happens s e) events (changes_ready (length events) s e.reading (outcome s e).change ready fits.small) all.1)

pub events_fit : (s : State) (events : List Event) → IsOpening s → length events ≤ 2 ^ 62 → AllByRecursion IsEvent events → AreEvents s events
events_fit s events is few all =
    are_told s events (record {
      last = (let l = is.last in let c = clock_of-le (2 ^ 43 - 1) in omega arith);
      docs = is.docs;
      entries = (let l = is.entries in omega arith);
      clients = (let l = is.clients in omega arith);
    }) all
