use Rattle.std.proofs.Common.{rules, ◌≡◌, sym, subst}
use Rattle.cbt_attempt.specs.OwnWrites.{noted, lists_of, NamesByKind}
use Rattle.cbt_attempt.proofs.Listing.{names_by_kind}
use Rattle.cbt_attempt.proofs.attempt.Attempt.lists.Goals as goal

pub returns-clause-named : goal.returns-clause-named
returns-clause-named c =
    let whole : c.loop-doc.lists ≡ lists_of c.args.self.now.writes = search rules in
    subst (λ lists. NamesByKind (noted c.args.self.now.writes) lists) (sym whole) (names_by_kind c.args.self.now.writes c.iter-doc-items.ensures.distinct)
