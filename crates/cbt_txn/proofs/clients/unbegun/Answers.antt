use Rattle.std.proofs.Common.{◌≡◌, ◌+◌, List, [], ◌∷◌, ◌++◌, length, sym, ap, ◌∙◌, subst}
use Rattle.cbt_book.specs.declared.clients.AttemptLog.{AttemptLog}
use Rattle.cbt_book.specs.declared.clients.TxnEnd.TheVariants as txn_end
use Rattle.cbt_book.specs.declared.clients.TxnLog.{TxnLog}
use Rattle.cbt_logs.proofs.Snoc.{length_snoc}
use Rattle.cbt_txn.specs.Clients.{AreUnbegun, unbegun}
use Rattle.cbt_txn.proofs.Standing.{one_more, unbegun_more}
use Rattle.cbt_txn.proofs.clients.unbegun.Goals as goal

pub loop-at-preserved : goal.loop-at-preserved
loop-at-preserved c =
    let with : List AttemptLog → List TxnLog = λ k. c.loop-at.logs ++ record { attempts = k; end = txn_end.Stopped } ∷ [] in
    let is : c.push.new.self ≡ c.loop-at.logs ++ unbegun ∷ [] = c.in_ok-push.ensures.ok ∙ ap with c.new.ensures in
    record {
      long = ap length is ∙ length_snoc c.loop-at.logs unbegun ∙ sym (one_more (length c.loop-at.logs)) ∙ ap (λ n. n + 1) c.loop-at.invariant.long;
      unbegun = subst AreUnbegun (sym is) (unbegun_more c.loop-at.logs c.loop-at.invariant.unbegun);
    }
