-- What licenses the operations of a try, as their functions leave it.
use Rattle.std.proofs.Common.{◌≡◌, Bool, true, false, List, ◌∷◌, Some, Result, Ok, Err, IfOk, OnOk, ap, sym, ◌∙◌, subst}
use Rattle.cbt_model.specs.Fitting.{fits}
use Rattle.cbt_model.specs.declared.events.Answer.{Answer}
use Rattle.cbt_model.specs.declared.events.Made.{Made}
use Rattle.cbt_model.specs.declared.steps.Step.{Step}
use Rattle.cbt_book.specs.Numbers.{Identity}
use Rattle.cbt_txn.specs.Feeding.{fed, learnt, marked, went_on}
use Rattle.cbt_txn.specs.Licensing.{MayCome, MayGoOn, MayWork, refused, Owns}
use Rattle.cbt_txn.specs.Works.{step_of}
use Rattle.cbt_txn.specs.declared.operations.Fed.{Fed}
use Rattle.cbt_txn.specs.declared.operations.Operations.{Operations}
use Rattle.cbt_txn.specs.declared.operations.Work.{Work}
use Rattle.cbt_txn.specs.declared.operations.Work.TheVariants as work
use Rattle.cbt_txn.proofs.GoingOn.{work_on}

-- the work was turned to
pub turned : (who : Identity) (l : List Made) (c new : Operations) (w : Work) → new ≡ record c { work = w } → Owns who c.attempt l → MayWork who c.attempt l w
    → MayGoOn who new l
turned who l c new w is owns works = subst (λ k. MayGoOn who k l) (sym is) (record { owns = owns; works = works })

-- an answer lets the try go no further
pub went_no_further : (who : Identity) (l : List Made) (c new : Operations) (good : Bool) → good ≡ false → new ≡ went_on good c → Owns who c.attempt l
    → MayGoOn who new l
went_no_further who l c new true never is owns = absurd (cc)
went_no_further who l c new false none is owns = turned who l c new work.Refused is owns refused

-- an operation was answered without a call
pub answered_at_once : {E : Type 0} (who : Identity) (l : List Made) (c new : Operations) (good : Bool) (r : Result Bool E) → IfOk r (λ on. on ≡ good)
    → OnOk r (new ≡ went_on good c) → Owns who c.attempt l → IfOk r (λ on. on ≡ false → MayGoOn who new l)
answered_at_once who l c new good (Ok on) told is owns = λ never. went_no_further who l c new good (sym told ∙ never) is owns
answered_at_once who l c new good (Err e) told is owns = tt

-- the answer to a call was taken in
pub took_in : (who : Identity) (l : List Made) (s : Step) (answer : Answer) (old mark took : Operations) (it : Fed) → step_of old.work ≡ Some s
    → fits s answer.reply ≡ true → MayGoOn who old l → mark ≡ marked old answer.place
    → took ≡ record mark { attempt = learnt mark.attempt mark.work answer.place answer.reply; work = work.Done } → it ≡ fed mark.work answer.place answer.reply
    → Owns who took.attempt (record { step = s; answer = answer } ∷ l) × MayCome who took.attempt (record { step = s; answer = answer } ∷ l) it
took_in who l s answer old mark took it asked fit may marked_is took_is it_is =
    let on = work_on who old.attempt l s answer old.work may.owns may.works asked fit in
    let attempt_is : took.attempt ≡ learnt old.attempt old.work answer.place answer.reply =
    ap (λ (k : Operations). k.attempt) took_is ∙ ap (λ (k : Operations). learnt k.attempt k.work answer.place answer.reply) marked_is in
    let fed_is : it ≡ fed old.work answer.place answer.reply = it_is ∙ ap (λ (k : Operations). fed k.work answer.place answer.reply) marked_is in
    let l' : List Made = record { step = s; answer = answer } ∷ l in (
      subst (λ k. Owns who k l') (sym attempt_is) on.0,
      subst (λ k. MayCome who k l' it) (sym attempt_is)
          (subst (λ k. MayCome who (learnt old.attempt old.work answer.place answer.reply) l' k) (sym fed_is) on.1),
    )
