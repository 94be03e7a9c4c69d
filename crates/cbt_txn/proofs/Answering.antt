-- A client that has taken an answer in stands for its list with that call.
use Rattle.std.proofs.Common.{◌≡◌, ◌+◌, ◌<◌, ◌^◌, Bool, true, false, if◌then◌else◌, is_ok, is_some, List, ◌∷◌, length, slice_get, Some, None, Result, Ok, Err, OnOk, OnErr, refl, sym, ap, ◌∙◌, subst}
use Rattle.cbt_model.specs.declared.events.Made.{Made}
use Rattle.cbt_book.specs.Numbers.{Identity}
use Rattle.cbt_book.specs.OwnLists.{Descends}
use Rattle.cbt_txn.specs.Clients.{Goes, MayGoOn, Rests, Stands, StandsFor, step_in, step_now}
use Rattle.cbt_txn.specs.declared.clients.Client.{Client}
use Rattle.cbt_txn.proofs.Advancing.{asked_licensed}
use Rattle.cbt_txn.proofs.Standing.{goes_rests, one_more}

-- one that asks for a call was not stopped
pub running : (c : Client) → is_some (step_now c) ≡ true → c.stopped ≡ false
running c asked = by c.stopped asked
  where
    by : (b : Bool) → is_some (if b then None else step_in (slice_get c.origin.plan.txns c.at) c.txn) ≡ true → b ≡ false
    by true is = cc
    by false is = refl

asks_running : (c : Client) → c.stopped ≡ false → step_now c ≡ step_in (slice_get c.origin.plan.txns c.at) c.txn
asks_running c is = ap (λ b. if b then None else step_in (slice_get c.origin.plan.txns c.at) c.txn) is

pub goes_now : (c : Client) (l : List Made) → StandsFor c l → c.stopped ≡ false → Descends l → Goes c l
goes_now c l stands is falls = subst (λ b. Stands b c l) is (stands.follows falls)

-- its calls so far
pub stands_on : (c new : Client) (l : List Made) (m : Made) → StandsFor c l → step_now c ≡ Some m.step → new.origin ≡ c.origin → new.calls ≡ c.calls + 1
    → (new.stopped ≡ false → new.calls < 2 ^ 62) → ((who : Identity) → who.number ≡ c.origin.actor → new.stopped ≡ false → MayGoOn who new (m ∷ l))
    → (Descends (m ∷ l) → Stands new.stopped new (m ∷ l)) → StandsFor new (m ∷ l)
stands_on c new l m stands asked origin calls few may follows = record {
  counted = counted;
  few = λ is. subst (λ n. n < 2 ^ 62) counted (few is);
  licensed = λ who is.
      let mine = is ∙ ap (λ o. o.actor) origin in (
        asked_licensed who (slice_get c.origin.plan.txns c.at) c.at c.txn l m.step (stands.goes_on who mine unstopped) (sym (asks_running c unstopped) ∙ asked),
        stands.licensed who mine,
      );
  goes_on = λ who is. may who (is ∙ ap (λ o. o.actor) origin);
  follows = follows;
}
  where
    unstopped : c.stopped ≡ false
    unstopped = running c (ap is_some asked)

    counted : new.calls ≡ length (m ∷ l)
    counted = calls ∙ ap (λ n. n + 1) stands.counted ∙ one_more (length l)

-- memory was found
pub ok_so : {E P : Type 0} (r : Result Unit E) → is_ok r ≡ true → OnOk r P → P
ok_so (Ok done) found it = it
ok_so (Err refused) found it = cc

-- whether memory was found or not, it may be told as one that was stopped
pub rests_now : {E : Type 0} (r : Result Unit E) (c : Client) (l : List Made) → Descends l → OnOk r (Goes c l) → OnErr r (Rests c l) → Rests c l
rests_now (Ok done) c l falls goes rests = goes_rests c.origin c.txns c.at l c.txn falls goes
rests_now (Err refused) c l falls goes rests = rests

-- so it may at any moment
pub stops_now : (b : Bool) (c : Client) (l : List Made) → Descends l → Stands b c l → Rests c l
stops_now false c l falls goes = goes_rests c.origin c.txns c.at l c.txn falls goes
stops_now true c l falls rests = rests
