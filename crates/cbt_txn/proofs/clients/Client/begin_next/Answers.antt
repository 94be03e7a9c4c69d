use Rattle.std.proofs.Common.{◌+◌, ◌≤◌, get_or, [], refl, sym, ap, ◌∙◌, subst}
use Rattle.std.proofs.lemmas.Option.{slice_get_read}
use Rattle.cbt_book.specs.Numbers.{Identity}
use Rattle.cbt_txn.specs.Clients.{Goes, IsBetween, MayGoOn, MayGoOnWith, due_left, running_left, terms_of}
use Rattle.cbt_txn.specs.Transactions.{AreEarlier}
use Rattle.cbt_txn.specs.declared.keeping.Terms.{Terms}
use Rattle.cbt_txn.proofs.Advancing.{begun_runs, is_none, is_there, told_parts, way_of}
use Rattle.cbt_txn.proofs.Standing.{one_more}
use Rattle.cbt_txn.proofs.ClientBounds.{begun_few, fewer_past}
use Rattle.cbt_txn.proofs.clients.Client.begin_next.Goals as goal

-- it goes on
pub returns-then-is_none-clause-follows : goal.returns-then-is_none-clause-follows
returns-then-is_none-clause-follows c l past falls earlier between =
    let o = c.args.self.now.origin in
    let at = c.args.self.now.at in
    let this = c.index-as_slice-self.result in
    let txn = c.in_ok-txn.txn in
    let at_plan = slice_get_read o.plan.txns _ at this refl c.requires.left (c.index-as_slice-self.is ∙ ap (λ k. get_or k at this) c.as_slice.ensures) in
    let is = c.in_ok-txn.ensures.terms in
    let who : Identity = record { number = o.actor; cleaner = 0 } in
    let way =
    way_of o at this txn at_plan (ap (λ (k : Terms). k.client) is) (ap (λ (k : Terms). k.number) is ∙ one_more at) (ap (λ (k : Terms). k.atrs) is)
    (is_none txn.end c.if-is_none.ensures) in
    subst (λ k. Goes k l) (sym c.set_txn.ensures)
    (begun_runs o c.args.self.now.txns at l txn between.1 way
    (c.in_ok-txn.ensures.follows who (terms_of o at this) l (record { client = refl; number = sym (one_more at); atrs = refl }) refl refl past falls
    (subst (λ n. AreEarlier o.actor n 1 l) (sym (one_more at)) earlier)))

pub returns-then-is_none-clause-licensed : goal.returns-then-is_none-clause-licensed
returns-then-is_none-clause-licensed c who l is earlier =
    let o = c.args.self.now.origin in
    let at = c.args.self.now.at in
    subst (λ k. MayGoOn who k l) (sym c.set_txn.ensures) (
      ap (λ (k : Terms). k.number) c.in_ok-txn.ensures.terms ∙ one_more at,
      c.in_ok-txn.ensures.licensed who l is (subst (λ n. AreEarlier o.actor n 1 l) (sym (one_more at)) earlier),
    )

-- it has ended without a call
pub returns-clause-follows : goal.returns-clause-follows
returns-clause-follows c l past falls earlier between =
    let o = c.args.self.now.origin in
    let at = c.args.self.now.at in
    let this = c.index-as_slice-self.result in
    let txn = c.in_ok-txn.txn in
    let at_plan = slice_get_read o.plan.txns _ at this refl c.requires.left (c.index-as_slice-self.is ∙ ap (λ k. get_or k at this) c.as_slice.ensures) in
    let who : Identity = record { number = o.actor; cleaner = 0 } in
    let end = is_there txn.end c.if-is_none.ensures in
    subst (λ k. IsBetween k l) (sym c.tell.ensures) (
      between.0,
      told_parts o c.args.self.now.txns at l [] txn this falls between.1 at_plan
          (c.in_ok-txn.ensures.follows who (terms_of o at this) l (record { client = refl; number = sym (one_more at); atrs = refl }) refl refl past falls
          (subst (λ n. AreEarlier o.actor n 1 l) (sym (one_more at)) earlier)) end.0 end.1,
    )

pub returns-clause-licensed : goal.returns-clause-licensed
returns-clause-licensed c who l is earlier =
    subst (λ k. MayGoOn who k l) (sym c.tell.ensures)
    (subst (λ t. MayGoOnWith who (c.args.self.now.at + 1) t l) (sym c.requires.idle) tt)

-- ---- the calls that are left

pub returns-then-is_none-clause-no_more : goal.returns-then-is_none-clause-no_more
returns-then-is_none-clause-no_more c =
    let o = c.args.self.now.origin in
    let at = c.args.self.now.at in
    let this = c.index-as_slice-self.result in
    let at_plan = slice_get_read o.plan.txns _ at this refl c.requires.left (c.index-as_slice-self.is ∙ ap (λ k. get_or k at this) c.as_slice.ensures) in
    subst (λ k. running_left k ≤ due_left c.args.self.now) (sym c.set_txn.ensures)
    (begun_few o.plan.txns at this c.in_ok-txn.txn at_plan c.in_ok-txn.ensures.few)

pub returns-clause-no_more : goal.returns-clause-no_more
returns-clause-no_more c =
    subst (λ k. due_left k ≤ due_left c.args.self.now) (sym c.tell.ensures) (fewer_past c.args.self.now.origin.plan.txns c.args.self.now.at)
