use Rattle.std.proofs.Common.{◌≡◌, ◌⊎◌, inl}
use Rattle.std.proofs.lemmas.Result.{err_from_is_err_and}
use Rattle.std.specs.Prelude.{IsErrOf, IsUtf8}
use Rattle.cbt_json.specs.declared.fault.JsonFault.TheVariants.{NoMemory}
use Rattle.cbt_json.specs.Reading.{json_of}
use Rattle.cbt_json.proofs.Read.{json_of-reading, answers, reads_again}
use Rattle.cbt_json.proofs.value.Json.read.Goals as goal

pub returns-in_err-tree-clause-again : goal.returns-in_err-tree-clause-again
returns-in_err-tree-clause-again c =
    let p = err_from_is_err_and c.from_residual.result c.from_residual.ensures.1 in
    let known = c.in_err-tree.ensures in
    let answered : IsUtf8 c.args.bytes.now → (c.parse.result ≡ json_of c.args.bytes.now) ⊎ IsErrOf c.parse.result NoMemory =
    rw c.in_err-tree.was (answers _ c.args.bytes.now tt known.not_json known.not_whole) in
    reads_again _ c.args.bytes.now (rw (p.1, p.2, ← c.in_err-tree.was) answered)

pub returns-clause-answer : goal.returns-clause-answer
returns-clause-answer c = λ utf8. inl (json_of-reading c.args.bytes.now c.in_ok-tree.tree c.in_ok-tree.ensures.ok.1)

pub returns-clause-again : goal.returns-clause-again
returns-clause-again c = reads_again _ c.args.bytes.now (λ utf8. inl (json_of-reading c.args.bytes.now c.in_ok-tree.tree c.in_ok-tree.ensures.ok.1))
