use Rattle.std.proofs.Common.{◌≡◌, ◌≢◌, ℕ, true, ◌⊎◌, inl, inr, List, Option, Some, Result, Ok, Err, IfOk, refl, sym, subst}
use Rattle.cbt_json.specs.declared.value.Json.{Json}
use Rattle.cbt_expr.specs.Answers.{answer_of, bound_in}
use Rattle.cbt_expr.specs.Forms.{form_of}
use Rattle.cbt_expr.specs.Values.{value_of, valued}
use Rattle.cbt_expr.specs.declared.expressions.Expr.{Expr}
use Rattle.cbt_expr.specs.declared.values.EvalFault.{EvalFault}
use Rattle.cbt_expr.specs.declared.values.EvalFault.TheVariants.{NoMemory}
use Rattle.cbt_expr.proofs.Bodies.{judged-Ok}
use Rattle.cbt_model.specs.Bodies.{body_fits_of}
use Rattle.cbt_model.specs.Fitting.{content_fits}
use Rattle.cbt_model.specs.declared.documents.OpKind.{OpKind}
use Rattle.cbt_model.specs.declared.documents.OpKind.TheVariants.{Insert, Replace, Remove}
use Rattle.cbt_model.proofs.FitBodies.{body_fits_of-fits}
use Rattle.cbt_core.specs.Walk.{Writes, content_of}
use Rattle.cbt_txn.specs.Starts.{started}
use Rattle.cbt_txn.proofs.starts.start_value.Goals as goal

worth : (r : Result Json EvalFault) (v : Result Json ℕ) (content : Json) → (r ≡ answer_of v) ⊎ (r ≡ Err NoMemory) → r ≡ Ok content → v ≡ Ok content
worth r (Ok value) content (inl is) got = cc
worth r (Err part) content (inl is) got = absurd (cc)
worth r v content (inr is) got = absurd (cc)

fits_write : (kind : OpKind) (content : Json) → kind ≢ Remove → body_fits_of content ≡ true → content_fits kind (Some content) ≡ true
fits_write Insert content writes fits = fits
fits_write Replace content writes fits = fits
fits_write Remove content writes fits = absurd (writes refl)

body_fits : (bound : List ℕ → Option Json) (e : Expr) (content : Json) → value_of bound e ≡ Ok content → body_fits_of content ≡ true
body_fits bound e content is = body_fits_of-fits content (judged-Ok (valued bound 0 (form_of e)) content is).1

pub start_write-requires : goal.start_write-requires
start_write-requires c =
    let bound = bound_in c.args.bound.now in
    let is = worth c.eval.result (value_of bound c.args.value.now) c.in-Ok.content c.eval.ensures.answer c.in-Ok.is in
    fits_write c.args.kind c.in-Ok.content c.requires (body_fits bound c.args.value.now c.in-Ok.content is)

pub returns-in-Ok : goal.returns-in-Ok
returns-in-Ok c =
    let bound = bound_in c.args.bound.now in
    let is = worth c.eval.result (value_of bound c.args.value.now) c.in-Ok.content c.eval.ensures.answer c.in-Ok.is in
    subst (λ v. IfOk c.start_write.result (λ start. start ≡ started c.args.attempt.now (Writes c.args.doc.now c.args.kind (content_of v)))) (sym is)
    c.start_write.ensures
