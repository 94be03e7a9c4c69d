use Rattle.std.proofs.Common.{length, ap, ◌∙◌, subst}
use Rattle.cbtx.specs.Adding.{AreClients}
use Rattle.cbtx.proofs.Adding.{crew-is}
use Rattle.cbtx.proofs.crew.workers_of.Goals as goal

pub returns : goal.returns
returns c = record {
  crew = crew-is c.args.script.now c.in_ok-workers.workers c.add_cleaners.new.workers
      (subst (λ clients. AreClients c.args.script.now.atrs clients c.in_ok-workers.workers) c.as_slice.ensures c.in_ok-workers.ensures.clients)
      (c.in_ok-workers.ensures.all ∙ ap (λ clients. length clients) c.as_slice.ensures)
      c.in_ok-add_cleaners.ensures;
}
