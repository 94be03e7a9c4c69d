-- What was read of a document is what it resolved to at the reading's moment.
use Rattle.std.proofs.Common.{◌≡◌, ◌≢◌, ℕ, ◌<◌, ◌≤◌, inl, inr, ⊎_elim, List, [], ◌∷◌, length, Option, Some, None, refl, sym, ap, ◌∙◌, subst, arith}
use Rattle.std.proofs.lemmas.Option.{none-some}
use Rattle.cbt_json.specs.declared.value.Json.{Json}
use Rattle.cbt_model.specs.History.{after, own, commits}
use Rattle.cbt_model.specs.View.{resolved}
use Rattle.cbt_model.specs.declared.documents.DocState.{DocState}
use Rattle.cbt_model.specs.declared.documents.Stage.{Stage}
use Rattle.cbt_model.specs.declared.entries.Entry.{Entry}
use Rattle.cbt_model.specs.declared.entries.EntryState.TheVariants.{Pending, Committed}
use Rattle.cbt_model.specs.declared.events.Event.{Event}
use Rattle.cbt_model.specs.declared.events.Made.{Made}
use Rattle.cbt_model.specs.declared.states.State.{State}
use Rattle.cbt_model.specs.declared.steps.Step.{Step}
use Rattle.cbt_model.specs.declared.steps.Step.TheVariants as step
use Rattle.cbt_book.specs.OwnLists.{Once, In, Descends}
use Rattle.cbt_book.specs.ReadAt.{Reading, IsReadAt}
use Rattle.cbt_book.specs.ReadAt as ways
use Rattle.cbt_book.specs.Shown.{ReadsDoc, FindsNoDoc, ReadsEntry, FindsNoEntry}
use Rattle.cbt_core.proofs.interleaving.Answers.{DocShown, doc_told, no_doc_told, entry_told, no_entry_told}
use Rattle.cbt_core.proofs.interleaving.Documents.{doc_then, same_at_cas, same_between}
use Rattle.cbt_core.proofs.interleaving.Entries.{entry_then, stays_decided}
use Rattle.cbt_core.proofs.runs.Lawful.{Lawful}
use Rattle.cbt_core.proofs.runs.Past.{in_at, Member}
use Rattle.cbt_core.proofs.k2_documents.Views.{view_then, view_free, view_held, view_none, as_body, as_content}
use Rattle.cbt_core.proofs.interleaving.Worth.{dead_since}

-- a call of which it is so, with those before it
pub record Found (P : Made → List Made → Type 0) (l : List Made) : Type 0 where
  pub call : Made
  pub past : List Made
  pub there : In call l
  pub holds : P call past
  pub older : (n : Made) → In n past → In n l × (n.answer.place < call.answer.place)
  pub falls : Descends past

pub found_at : (P : Made → List Made → Type 0) (l : List Made) → Descends l → Once P l → Found P l
found_at P [] falls once = absurd once
found_at P (m ∷ past) falls once =
    ⊎_elim (λ (here : P m past). record { call = m; past = past; there = inl refl; holds = here; older = λ n there. (inr there, falls.0 n there); falls = falls.1 })
    (λ (before : Once P past).
    let it = found_at P past falls.1 before in
    record { call = it.call; past = it.past; there = inr it.there; holds = it.holds; older = λ n there. (inr (it.older n there).0, (it.older n there).1); falls = it.falls }) once

module _ (s0 : State) (h : List Event) (lawful : Lawful s0 h) (actor : ℕ) where
  -- a call of the actor with its event
  event_of : (m : Made) → In m (own s0 h actor (length h)) → Member s0 h m actor (length h)
  event_of m there = in_at s0 h m actor (length h) there

  place_of : (m : Made) (it : Member s0 h m actor (length h)) → m.answer.place ≡ it.place
  place_of m it = ap (λ (x : Made). x.answer.place) it.made

  read_doc : (m : Made) (it : Member s0 h m actor (length h)) (d : List ℕ) (x : ℕ) (body : Option Json) (stage : Option Stage) → ReadsDoc d x body stage m → DocShown (after s0 h it.place) d x body stage
  read_doc m it d x body stage read =
      doc_told s0 h it.place it.event d x body stage (ap (λ (n : Made). n.step) (sym it.made) ∙ read.0) (ap (λ (n : Made). n.answer.reply) (sym it.made) ∙ read.1)

  -- the calls of a list of the actor's, such as those of a span
  module _ (l : List Made) (part : (m : Made) → In m l → In m (own s0 h actor (length h))) (falls : Descends l) where
    -- the moment of a reading is the place of one of the calls, and this is no commit
    pub record Moment (t : ℕ) : Type 0 where
      pub call : Made
      pub there : In call l
      pub at : call.answer.place ≡ t
      pub reads : (a : ℕ) → commits call.step ≡ Some a → ⊥

    no_commit_doc : (d : List ℕ) (st : Step) (a : ℕ) → st ≡ step.ReadDoc d → commits st ≡ Some a → ⊥
    no_commit_doc d st a is commit_is = none-some a (sym (ap commits is) ∙ commit_is)

    no_commit_entry : (r b : ℕ) (st : Step) (a : ℕ) → st ≡ step.ReadEntry r b → commits st ≡ Some a → ⊥
    no_commit_entry r b st a is commit_is = none-some a (sym (ap commits is) ∙ commit_is)

    -- the document at the moment of a reading has the CAS that was read
    pub data HasCasAt (d : List ℕ) (it : Reading) : Type 0 where
      missing : it.cas ≡ None → doc_then s0 h lawful it.moment d ≡ None → HasCasAt d it
      standing : (x : ℕ) (doc : DocState) → it.cas ≡ Some x → doc_then s0 h lawful it.moment d ≡ Some doc → doc.cas ≡ x → HasCasAt d it

    -- what a document resolves to where a reading was made, with the moment
    pub record Resolves (d : List ℕ) (it : Reading) : Type 0 where
      pub value_is : view_then s0 h lawful it.moment d ≡ it.value
      pub moment : Moment it.moment
      pub cas_is : HasCasAt d it

    by_absent : (d : List ℕ) (it : Reading) → it.value ≡ None → it.cas ≡ None → Found (λ m _. (m.answer.place ≡ it.moment) × FindsNoDoc d m) l → Resolves d it
    by_absent d it none no_cas f =
        let e = event_of f.call (part f.call f.there) in
        let at : e.place ≡ it.moment = sym (place_of f.call e) ∙ f.holds.0 in
        let gone = no_doc_told s0 h e.place e.event d (ap (λ (n : Made). n.step) (sym e.made) ∙ f.holds.1.0) (ap (λ (n : Made). n.answer.reply) (sym e.made) ∙ f.holds.1.1) in
        record {
          value_is = ap (λ i. view_then s0 h lawful i d) (sym at) ∙ view_none (after s0 h e.place) d gone ∙ sym none;
          moment = record { call = f.call; there = f.there; at = f.holds.0; reads = λ a is. no_commit_doc d f.call.step a f.holds.1.0 is };
          cas_is = missing no_cas (subst (λ i. doc_then s0 h lawful i d ≡ None) at gone);
        }

    by_unstaged : (d : List ℕ) (it : Reading) (x : ℕ) → it.cas ≡ Some x → Found (λ m _. (m.answer.place ≡ it.moment) × ReadsDoc d x it.value None m) l → Resolves d it
    by_unstaged d it x cas f =
        let e = event_of f.call (part f.call f.there) in
        let at : e.place ≡ it.moment = sym (place_of f.call e) ∙ f.holds.0 in
        let doc = read_doc f.call e d x it.value None f.holds.1 in
        record {
          value_is = ap (λ i. view_then s0 h lawful i d) (sym at) ∙ view_free (after s0 h e.place) d doc.doc doc.there doc.stage_is ∙ doc.body_is;
          moment = record { call = f.call; there = f.there; at = f.holds.0; reads = λ a is. no_commit_doc d f.call.step a f.holds.1.0 is };
          cas_is = standing x doc.doc cas (subst (λ i. doc_then s0 h lawful i d ≡ Some doc.doc) at doc.there) doc.cas;
        }

    by_uncommitted : (d : List ℕ) (it : Reading) (x : ℕ) (stage : Stage) (e : Entry) → e.state ≢ Committed → it.cas ≡ Some x
        → Found (λ m before. ReadsEntry stage.atr stage.attempt e m × Once (λ n _. (n.answer.place ≡ it.moment) × ReadsDoc d x it.value (Some stage) n) before) l → Resolves d it
    by_uncommitted d it x stage e apart cas f = go (found_at (λ n _. (n.answer.place ≡ it.moment) × ReadsDoc d x it.value (Some stage) n) f.past f.falls f.holds.1)
      where
        go : Found (λ n _. (n.answer.place ≡ it.moment) × ReadsDoc d x it.value (Some stage) n) f.past → Resolves d it
        go g =
            let entry_event = event_of f.call (part f.call f.there) in
            let in_l = f.older g.call g.there in
            let doc_event = event_of g.call (part g.call in_l.0) in
            let at : doc_event.place ≡ it.moment = sym (place_of g.call doc_event) ∙ g.holds.0 in
            let doc = read_doc g.call doc_event d x it.value (Some stage) g.holds.1 in
            let entry = entry_told s0 h entry_event.place entry_event.event stage.atr stage.attempt e (ap (λ (n : Made). n.step) (sym entry_event.made) ∙ f.holds.0.0) (ap (λ (n : Made). n.answer.reply) (sym entry_event.made) ∙ f.holds.0.1) in
            let later : doc_event.place ≤ entry_event.place = (let p = place_of g.call doc_event in let q = place_of f.call entry_event in let low = in_l.1 in omega arith) in
            record {
              value_is =
                  ap (λ i. view_then s0 h lawful i d) (sym at) ∙ view_held (after s0 h doc_event.place) d doc.doc stage doc.there doc.stage_is
                  ∙ as_body doc.doc.body stage.content (entry_then s0 h lawful doc_event.place (stage.atr, stage.attempt))
                  (λ y there q. apart ((stays_decided s0 h lawful doc_event.place entry_event.place (stage.atr, stage.attempt) y e later there (committed_not_pending y q) entry).0 ∙ q))
                  ∙ doc.body_is;
              moment = record { call = g.call; there = in_l.0; at = g.holds.0; reads = λ a is. no_commit_doc d g.call.step a g.holds.1.0 is };
              cas_is = standing x doc.doc cas (subst (λ i. doc_then s0 h lawful i d ≡ Some doc.doc) at doc.there) doc.cas;
            }
          where
            committed_not_pending : (y : Entry) → y.state ≡ Committed → y.state ≢ Pending
            committed_not_pending y is = λ q. absurd (differ (sym is ∙ q))
              where
                differ : Committed ≡ Pending → ⊥
                differ q = cc

    by_committed : (d : List ℕ) (it : Reading) (x : ℕ) (stage : Stage) (e : Entry) → it.value ≡ stage.content → e.state ≡ Committed → it.cas ≡ Some x
        → Found (λ m before. ((body : Option Json) × (again : Option Stage) × ReadsDoc d x body again m)
        × Once (λ n earlier. (n.answer.place ≡ it.moment) × ReadsEntry stage.atr stage.attempt e n
        × Once (λ k _. (body : Option Json) × ReadsDoc d x body (Some stage) k) earlier) before) l → Resolves d it
    by_committed d it x stage e value state cas f =
        go (found_at (λ n earlier. (n.answer.place ≡ it.moment) × ReadsEntry stage.atr stage.attempt e n × Once (λ k _. (body : Option Json) × ReadsDoc d x body (Some stage) k) earlier) f.past f.falls f.holds.1)
      where
        go : Found (λ n earlier. (n.answer.place ≡ it.moment) × ReadsEntry stage.atr stage.attempt e n × Once (λ k _. (body : Option Json) × ReadsDoc d x body (Some stage) k) earlier) f.past → Resolves d it
        go g = last (found_at (λ k _. (body : Option Json) × ReadsDoc d x body (Some stage) k) g.past g.falls g.holds.2)
          where
            last : Found (λ k _. (body : Option Json) × ReadsDoc d x body (Some stage) k) g.past → Resolves d it
            last k =
                let again_event = event_of f.call (part f.call f.there) in
                let entry_in = f.older g.call g.there in
                let entry_event = event_of g.call (part g.call entry_in.0) in
                let first_in = g.older k.call k.there in
                let first_event = event_of k.call (part k.call (f.older k.call first_in.0).0) in
                let at : entry_event.place ≡ it.moment = sym (place_of g.call entry_event) ∙ g.holds.0 in
                let first_doc = read_doc k.call first_event d x k.holds.0 (Some stage) k.holds.1 in
                let again_doc = read_doc f.call again_event d x f.holds.0.0 f.holds.0.1 f.holds.0.2 in
                let entry = entry_told s0 h entry_event.place entry_event.event stage.atr stage.attempt e (ap (λ (n : Made). n.step) (sym entry_event.made) ∙ g.holds.1.0) (ap (λ (n : Made). n.answer.reply) (sym entry_event.made) ∙ g.holds.1.1) in
                let p = place_of k.call first_event in
                let q = place_of g.call entry_event in
                let w = place_of f.call again_event in
                let low = first_in.1 in
                let high = entry_in.1 in
                let here = same_between s0 h lawful first_event.place entry_event.place again_event.place d first_doc.doc again_doc.doc (omega arith) (omega arith) first_doc.there again_doc.there (first_doc.cas ∙ sym again_doc.cas) in
                record {
                  value_is =
                      ap (λ i. view_then s0 h lawful i d) (sym at) ∙ view_held (after s0 h entry_event.place) d first_doc.doc stage here first_doc.stage_is
                      ∙ ap (λ o. resolved first_doc.doc.body stage.content o) entry ∙ as_content first_doc.doc.body stage.content e state ∙ sym value;
                  moment = record { call = g.call; there = entry_in.0; at = g.holds.0; reads = λ a is. no_commit_entry stage.atr stage.attempt g.call.step a g.holds.1.0 is };
                  cas_is = standing x first_doc.doc cas (subst (λ i. doc_then s0 h lawful i d ≡ Some first_doc.doc) at here) first_doc.cas;
                }

    by_dead : (d : List ℕ) (it : Reading) (x : ℕ) (stage : Stage) → it.cas ≡ Some x
        → Found (λ m before. (m.answer.place ≡ it.moment) × ((again : Option Stage) × ReadsDoc d x it.value again m)
        × Once (λ n earlier. FindsNoEntry stage.atr stage.attempt n × Once (λ k _. (body : Option Json) × ReadsDoc d x body (Some stage) k) earlier) before) l → Resolves d it
    by_dead d it x stage cas f =
        go (found_at (λ n earlier. FindsNoEntry stage.atr stage.attempt n × Once (λ k _. (body : Option Json) × ReadsDoc d x body (Some stage) k) earlier) f.past f.falls f.holds.2)
      where
        go : Found (λ n earlier. FindsNoEntry stage.atr stage.attempt n × Once (λ k _. (body : Option Json) × ReadsDoc d x body (Some stage) k) earlier) f.past → Resolves d it
        go g = last (found_at (λ k _. (body : Option Json) × ReadsDoc d x body (Some stage) k) g.past g.falls g.holds.1)
          where
            last : Found (λ k _. (body : Option Json) × ReadsDoc d x body (Some stage) k) g.past → Resolves d it
            last k =
                let now_event = event_of f.call (part f.call f.there) in
                let gone_in = f.older g.call g.there in
                let gone_event = event_of g.call (part g.call gone_in.0) in
                let first_in = g.older k.call k.there in
                let first_event = event_of k.call (part k.call (f.older k.call first_in.0).0) in
                let at : now_event.place ≡ it.moment = sym (place_of f.call now_event) ∙ f.holds.0 in
                let first_doc = read_doc k.call first_event d x k.holds.0 (Some stage) k.holds.1 in
                let now_doc = read_doc f.call now_event d x it.value f.holds.1.0 f.holds.1.1 in
                let gone = no_entry_told s0 h gone_event.place gone_event.event stage.atr stage.attempt (ap (λ (n : Made). n.step) (sym gone_event.made) ∙ g.holds.0.0) (ap (λ (n : Made). n.answer.reply) (sym gone_event.made) ∙ g.holds.0.1) in
                let p = place_of k.call first_event in
                let q = place_of g.call gone_event in
                let w = place_of f.call now_event in
                let low = first_in.1 in
                let high = gone_in.1 in
                let same : first_doc.doc ≡ now_doc.doc = same_at_cas s0 h lawful first_event.place now_event.place d first_doc.doc now_doc.doc first_doc.there now_doc.there (first_doc.cas ∙ sym now_doc.cas) in
                let dead = dead_since s0 h lawful first_event.place gone_event.place now_event.place stage.atr d first_doc.doc stage first_doc.there first_doc.stage_is (omega arith) (omega arith) gone in
                record {
                  value_is =
                      ap (λ i. view_then s0 h lawful i d) (sym at)
                      ∙ view_held (after s0 h now_event.place) d now_doc.doc stage now_doc.there (ap (λ (y : DocState). y.stage) (sym same) ∙ first_doc.stage_is)
                      ∙ ap (λ o. resolved now_doc.doc.body stage.content o) dead ∙ now_doc.body_is;
                  moment = record { call = f.call; there = f.there; at = f.holds.0; reads = λ a is. no_commit_doc d f.call.step a f.holds.1.1.0 is };
                  cas_is = standing x now_doc.doc cas (subst (λ i. doc_then s0 h lawful i d ≡ Some now_doc.doc) at now_doc.there) now_doc.cas;
                }

    -- each way of reading tells what the document resolved to
    pub read_right : (d : List ℕ) (it : Reading) → IsReadAt d it l → Resolves d it
    read_right d it (ways.absent value cas by gone once) = by_absent d it value cas (found_at (λ m _. (m.answer.place ≡ it.moment) × FindsNoDoc d m) l falls once)
    read_right d it (ways.unstaged x cas by gone once) = by_unstaged d it x cas (found_at (λ m _. (m.answer.place ≡ it.moment) × ReadsDoc d x it.value None m) l falls once)
    read_right d it (ways.uncommitted x stage e cas by gone apart once) =
        by_uncommitted d it x stage e apart cas
        (found_at (λ m before. ReadsEntry stage.atr stage.attempt e m × Once (λ n _. (n.answer.place ≡ it.moment) × ReadsDoc d x it.value (Some stage) n) before) l falls once)
    read_right d it (ways.committed x stage e cas by gone value state once) =
        by_committed d it x stage e value state cas
        (found_at (λ m before. ((body : Option Json) × (again : Option Stage) × ReadsDoc d x body again m)
        × Once (λ n earlier. (n.answer.place ≡ it.moment) × ReadsEntry stage.atr stage.attempt e n
        × Once (λ k _. (body : Option Json) × ReadsDoc d x body (Some stage) k) earlier) before) l falls once)
    read_right d it (ways.dead x stage cas by gone once) =
        by_dead d it x stage cas
        (found_at (λ m before. (m.answer.place ≡ it.moment) × ((again : Option Stage) × ReadsDoc d x it.value again m)
        × Once (λ n earlier. FindsNoEntry stage.atr stage.attempt n × Once (λ k _. (body : Option Json) × ReadsDoc d x body (Some stage) k) earlier) before) l falls once)
