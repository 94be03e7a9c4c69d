-- While the operation under way has a call to make, it has no answer by those that it has made.
use Rattle.std.proofs.Common.{◌≡◌, ◌≢◌, true, false, List, ◌++◌, Ok, sym, subst, ℕ, None}
use Rattle.cbt_expr.specs.declared.plans.Op.{Op}
use Rattle.cbt_model.specs.declared.events.Made.{Made}
use Rattle.cbt_model.specs.declared.steps.Reply.TheVariants as reply
use Rattle.cbt_book.specs.OwnLists.{Each}
use Rattle.cbt_book.specs.declared.operations.OpAnswer.{OpAnswer}
use Rattle.cbt_core.specs.OpAnswers.{Answered}
use Rattle.cbt_core.specs.Staying.{StaysAsShown}
use Rattle.cbt_core.specs.Walk.{AttemptTerms, Reads, Writes}
use Rattle.cbt_logs.specs.Operating.{AreFine, ComesNext, asked, sofar}
use Rattle.cbt_read.specs.Phases as get_phases
use Rattle.cbt_read.specs.Standing as get
use Rattle.cbt_read.specs.declared.gets.Get.{Get}
use Rattle.cbt_txn.specs.Deciding.{is_over}
use Rattle.cbt_txn.specs.Following as following
use Rattle.cbt_txn.specs.Following.{Goes, PutsOn, ReadsFor, Works, WritesAgain, is_whole}
use Rattle.cbt_txn.specs.declared.operations.Operations.{Operations}
use Rattle.cbt_txn.specs.declared.operations.Work.{Work}
use Rattle.cbt_attempt.specs.declared.own.Own.{Own}
use Rattle.cbt_stage.specs.Phases as put_phases
use Rattle.cbt_stage.specs.Rewrites.{needs_call}
use Rattle.cbt_stage.specs.declared.agains.Again.{Again}
use Rattle.cbt_stage.specs.declared.puts.Put.{Put}
use Rattle.cbt_txn.proofs.Apart.{stays_front}
use Rattle.cbt_txn.proofs.GetsOpen.{each_so, get_open, not_contended, open_of, reads_nothing, write_open}
use Rattle.cbt_txn.proofs.Halting.{uncalled}
use Rattle.cbt_txn.proofs.PutsOpen.{again_open, puts_nothing}

-- the operation that comes next has none of the answers by these calls
pub record Unanswered (t : AttemptTerms) (c : Operations) (l calls : List Made) : Type 0 where
  pub op : Op
  pub next : ComesNext t c.logs op
  pub none : (a : OpAnswer) → Answered t l (sofar t c.logs) (asked t c.logs op) calls a → ⊥

unfailed : (t : AttemptTerms) (calls : List Made) → AreFine t calls → Each (λ m _. m.answer.reply ≢ reply.Failed) calls
unfailed t calls fine = each_so _ (λ m. m.answer.reply ≢ reply.Failed) calls (λ m it. it.1) fine

module _ (t : AttemptTerms) (c : Operations) (older calls : List Made) (stays : StaysAsShown (calls ++ older)) where
  abbrev l : List Made
  l = calls ++ older

  own_stays : StaysAsShown calls
  own_stays = stays_front calls older stays

  get_unanswered : (o : Op) (it : Get) (name : List ℕ) → Goes t c older calls o → asked t c.logs o ≡ Reads it.doc name
      → (sofar t c.logs).own it.doc ≡ None → get.StandsFor it calls → get_phases.end_of it ≡ None → Unanswered t c l calls
  get_unanswered o it name goes asks none stands going = record {
    op = o;
    next = goes.next;
    none = λ a answered.
        get_open (sofar t c.logs) it.doc calls none (open_of it.doc it.phase calls own_stays stands.knows going)
        (not_contended it.doc it.phase calls stands.knows going) (unfailed t calls goes.fine) a
        (subst (λ r. Answered t l (sofar t c.logs) r calls a) asks answered);
  }

  reads_unanswered : (o : Op) (it : Get) (write : Own) → Goes t c older calls o → ReadsFor t c it.doc write o → get.StandsFor it calls
      → get_phases.end_of it ≡ None → Unanswered t c l calls
  reads_unanswered o it write goes for stands going = record {
    op = o;
    next = goes.next;
    none = λ a answered.
        write_open t l (sofar t c.logs) it.doc write.kind write.content calls
        (reads_nothing t l (sofar t c.logs) it.doc write.kind calls (goes.agrees.own_none it.doc for.unwritten) for.unserved
        (open_of it.doc it.phase calls own_stays stands.knows going) (not_contended it.doc it.phase calls stands.knows going) (unfailed t calls goes.fine)) a
        (subst (λ r. Answered t l (sofar t c.logs) r calls a) for.asks answered);
  }

  puts_unanswered : (o : Op) (it : Put) (mine reads : List Made) → Goes t c older calls o → calls ≡ mine ++ reads → PutsOn t c older it mine reads o
      → put_phases.end_of it ≡ None → Unanswered t c l calls
  puts_unanswered o it mine reads goes same on going = record {
    op = o;
    next = goes.next;
    none = λ a answered.
        write_open t ((mine ++ reads) ++ older) (sofar t c.logs) it.task.doc it.task.write.kind it.task.write.content (mine ++ reads)
        (puts_nothing t c older it mine reads o on (goes.agrees.own_none it.task.doc on.unwritten) going (subst (λ k. StaysAsShown k) same own_stays)
        (subst (λ k. Each (λ m _. m.answer.reply ≢ reply.Failed) k) same (unfailed t calls goes.fine))) a
        (subst (λ k. Answered t (k ++ older) (sofar t c.logs) (Writes it.task.doc it.task.write.kind (Ok it.task.write.content)) k a) same
        (subst (λ r. Answered t l (sofar t c.logs) r calls a) on.asks answered));
  }

  again_unanswered : (o : Op) (it : Again) → Goes t c older calls o → WritesAgain t c it calls o → it.end ≡ None → Unanswered t c l calls
  again_unanswered o it goes writes going =
      let noted_so = goes.agrees.own_some it.task.doc writes.own writes.own_is in
      let whole = goes.agrees.whole it.task.doc writes.own writes.own_is in
      record {
        op = o;
        next = goes.next;
        none = λ a answered.
            again_open t l (sofar t c.logs) it.task.doc writes.kind writes.content noted_so.1 noted_so.3
            (subst (λ k. needs_call writes.kind k ≡ true) (sym noted_so.4) writes.needed)
            (subst (λ k. is_whole k noted_so.1.content ≡ true) (sym noted_so.4) (subst (λ k. is_whole writes.own.kind k ≡ true) (sym noted_so.5) whole)) a
            (subst (λ k. Answered t l (sofar t c.logs) (Writes it.task.doc writes.kind (Ok writes.content)) k a)
            (uncalled it.task it.end calls writes.stands.knows going) (subst (λ r. Answered t l (sofar t c.logs) r calls a) writes.asks answered));
      }

  -- whatever the work is
  pub works_unanswered : (w : Work) → Works t c older calls w → is_over w ≡ false → Unanswered t c l calls
  works_unanswered _ (following.gets o it name goes asks unwritten stands going) unended =
      get_unanswered o it name goes asks (goes.agrees.own_none it.doc unwritten) stands going
  works_unanswered _ (following.reads o it write goes for stands going) unended = reads_unanswered o it write goes for stands going
  works_unanswered _ (following.puts o it mine reads goes same on going) unended = puts_unanswered o it mine reads goes same on going
  works_unanswered _ (following.agains o it goes writes going) unended = again_unanswered o it goes writes going
  works_unanswered _ (following.done none good all) unended = cc
  works_unanswered _ (following.refused none refused) unended = cc
  works_unanswered _ (following.late newest before calls_are late operates) unended = cc
