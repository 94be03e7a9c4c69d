-- The calls of a transaction go on licensed.
use Rattle.std.proofs.Common.{◌≡◌, ℕ, suc, ◌<◌, ◌^◌, List, ◌∷◌, length, Some, sym, ap, ◌∙◌, subst, arith}
use Rattle.cbt_base.specs.Ids.{attempt_number}
use Rattle.cbt_model.specs.declared.events.Answer.{Answer}
use Rattle.cbt_model.specs.declared.events.Made.{Made}
use Rattle.cbt_model.specs.declared.steps.Step.{Step}
use Rattle.cbt_book.specs.Numbers.{Identity}
use Rattle.cbt_txn.specs.Closings.{IsNewTo, IsOf, TryMayGoOn}
use Rattle.cbt_txn.specs.Tries.{step_now}
use Rattle.cbt_txn.specs.Transactions.{AreEarlier, TxnMayGoOn}
use Rattle.cbt_txn.specs.declared.keeping.Terms.{Terms}
use Rattle.cbt_txn.specs.declared.transactions.Transaction.{Transaction}
use Rattle.cbt_txn.proofs.Numbers.{earlier_on, earlier_try, is_new_to}
use Rattle.cbt_txn.proofs.TryLicensing.{try_names}

-- the attempt that this try has
abbrev pub number_at : Terms → ℕ → ℕ
number_at terms k = attempt_number terms.client terms.number k

module _ (who : Identity) (old : Transaction) (l : List Made) (may : TxnMayGoOn who old l) (client : old.terms.client < 2 ^ 32)
    (number : old.terms.number < 2 ^ 16) where
  -- a further try is new to the list
  pub again_new : suc (length old.attempts) < 2 ^ 32 → IsNewTo who (number_at old.terms (suc (length old.attempts))) l
  again_new few = is_new_to who old.terms.client old.terms.number (suc (length old.attempts)) l may.client client number few may.earlier

  pub again_licensed : (new : Transaction) → new.terms ≡ old.terms → length new.attempts ≡ suc (length old.attempts) → suc (length old.attempts) < 2 ^ 32
      → IsOf (number_at old.terms (suc (length old.attempts))) old.terms.atrs new.trying.it → TryMayGoOn who new.trying.it l → TxnMayGoOn who new l
  again_licensed new terms longer few of goes_on = record {
    client = may.client ∙ ap (λ (k : Terms). k.client) (sym terms);
    few = subst (λ k. k < 2 ^ 32) (sym longer) few;
    of = subst (λ k. IsOf (number_at new.terms k) new.terms.atrs new.trying.it) (sym longer)
        (subst (λ k. IsOf (number_at k (suc (length old.attempts))) k.atrs new.trying.it) (sym terms) of);
    earlier = subst (λ k. AreEarlier new.terms.client new.terms.number (suc k) l) (sym longer)
        (subst (λ (k : Terms). AreEarlier k.client k.number (suc (suc (length old.attempts))) l) (sym terms)
        (earlier_try old.terms.client old.terms.number (suc (length old.attempts)) (suc (suc (length old.attempts))) l may.earlier (omega arith)));
    goes_on = goes_on;
  }

  -- a call was made
  pub called_licensed : (new : Transaction) (s : Step) (ans : Answer) → step_now old.trying.it ≡ Some s → new.terms ≡ old.terms → new.attempts ≡ old.attempts
      → IsOf old.trying.it.operations.attempt.id old.trying.it.operations.attempt.atrs new.trying.it
      → TryMayGoOn who new.trying.it (record { step = s; answer = ans } ∷ l) → TxnMayGoOn who new (record { step = s; answer = ans } ∷ l)
  called_licensed new s ans asked terms attempts same goes_on = record {
    client = may.client ∙ ap (λ (k : Terms). k.client) (sym terms);
    few = subst (λ k. length k < 2 ^ 32) (sym attempts) may.few;
    of = subst (λ k. IsOf (number_at new.terms (length k)) new.terms.atrs new.trying.it) (sym attempts)
        (subst (λ (k : Terms). IsOf (number_at k (length old.attempts)) k.atrs new.trying.it) (sym terms) (same.0 ∙ may.of.0, same.1 ∙ may.of.1));
    earlier = subst (λ k. AreEarlier new.terms.client new.terms.number (suc (length k)) (record { step = s; answer = ans } ∷ l)) (sym attempts)
        (subst (λ (k : Terms). AreEarlier k.client k.number (suc (length old.attempts)) (record { step = s; answer = ans } ∷ l)) (sym terms)
        (earlier_on old.terms.client old.terms.number (length old.attempts) l s ans number may.few
        (subst (λ k. Rattle.cbt_txn.specs.Closings.NamesOnly k s) may.of.0 (try_names who old.trying.it l old.trying.it.closing s may.goes_on asked)) may.earlier));
    goes_on = goes_on;
  }

-- the first try is new to the list
pub first_new : (who : Identity) (terms : Terms) (l : List Made) → terms.client < 2 ^ 32 → terms.number < 2 ^ 16 → who.number ≡ terms.client
    → AreEarlier terms.client terms.number 1 l → IsNewTo who (number_at terms 1) l
first_new who terms l client number own earlier = is_new_to who terms.client terms.number 1 l own client number (omega arith) earlier

pub first_licensed : (who : Identity) (txn : Transaction) (l : List Made) → who.number ≡ txn.terms.client → AreEarlier txn.terms.client txn.terms.number 1 l
    → length txn.attempts ≡ 1 → IsOf (number_at txn.terms 1) txn.terms.atrs txn.trying.it → TryMayGoOn who txn.trying.it l → TxnMayGoOn who txn l
first_licensed who txn l own earlier one of goes_on = record {
  client = own;
  few = subst (λ k. k < 2 ^ 32) (sym one) (omega arith);
  of = subst (λ k. IsOf (number_at txn.terms k) txn.terms.atrs txn.trying.it) (sym one) of;
  earlier = subst (λ k. AreEarlier txn.terms.client txn.terms.number (suc k) l) (sym one) (earlier_try txn.terms.client txn.terms.number 1 2 l earlier (omega arith));
  goes_on = goes_on;
}
