use Rattle.std.proofs.Common.{sym, subst, arith}
use Rattle.cbt_model.specs.Legal.{KeepsTerms, AreReadings}
use Rattle.cbt_model.proofs.Terms.{keeps-marked, readings-marked}
use Rattle.cbt_plain.proofs.Calls.{marked-next}
use Rattle.cbt_plain.proofs.plain.PlainNode.advance.Goals as goal

pub invariant_of-self-2-clause-kept : goal.invariant_of-self-2-clause-kept
invariant_of-self-2-clause-kept g c =
    subst (λ m. KeepsTerms (record { faults = c.args.self.now.faults; line = c.args.self.now.line }) c.args.self.now.history m) (sym c.in_ok-push.ensures.ok)
    (keeps-marked (record { faults = c.args.self.now.faults; line = c.args.self.now.line }) c.args.self.now.history c.args.self.now.marks (record { place = c.len-place.result; ms = c.args.ms }) c.args.self.now.kept c.len-place.ensures)

pub invariant_of-self-2-clause-marked : goal.invariant_of-self-2-clause-marked
invariant_of-self-2-clause-marked g c = marked-next c.args.self.now.marks c.push.new.self (record { place = c.len-place.result; ms = c.args.ms }) c.args.self.now.ahead c.saturating_add-self.result _
    c.in_ok-push.ensures.ok c.len-place.ensures c.saturating_add-self.ensures c.args.self.now.marked (omega arith)

pub returns-clause-readings : goal.returns-clause-readings
returns-clause-readings g c f before none = let b = before none in record {
  so_far = subst (λ m. AreReadings f c.args.self.now.history m) (sym c.in_ok-push.ensures.ok)
      (readings-marked f c.args.self.now.history c.args.self.now.marks (record { place = c.len-place.result; ms = c.args.ms }) b.so_far c.len-place.ensures);
  next = b.next;
  rest = b.rest;
}
