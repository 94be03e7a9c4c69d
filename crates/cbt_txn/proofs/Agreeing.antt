-- What an attempt has noted agrees with what the answers add up to also after a further answer, and over more calls.
use Rattle.std.proofs.Common.{◌≡◌, ◌≢◌, ℕ, ◌≤◌, true, false, cond, List, [], ◌∷◌, ◌++◌, Option, Some, None, is_some, ⊎_elim, refl, sym, ap, ◌∙◌, subst, arith}
use Rattle.std.proofs.lemmas.Option.{none-some}
use Rattle.cbt_json.specs.declared.value.Json.{Json}
use Rattle.cbt_model.specs.Keys.{doc_cmp}
use Rattle.cbt_model.specs.declared.events.Made.{Made}
use Rattle.cbt_model.proofs.Orders.{doc_order, key_cases, key_itself}
use Rattle.std.specs.Ordering.{is_eq}
use Rattle.cbt_book.specs.OwnLists.{Descends, during}
use Rattle.cbt_book.specs.ReadAt.{Reading, IsReadAt}
use Rattle.cbt_book.specs.Spans.{past_of}
use Rattle.cbt_core.specs.OpAnswers.{HasCas}
use Rattle.cbt_core.specs.Walk.{LastRead, OwnWrite, Sofar, with_value}
use Rattle.cbt_core.proofs.runs.Past.{some_same}
use Rattle.cbt_attempt.specs.OwnWrites.{noted, with_noted, without_noted}
use Rattle.cbt_attempt.specs.declared.attempt.Attempt.{Attempt}
use Rattle.cbt_attempt.specs.declared.own.Own.{Own}
use Rattle.cbt_logs.proofs.Lists.{above, each_more, once_back}
use Rattle.cbt_logs.proofs.Spans.{during_front}
use Rattle.cbt_txn.specs.Following.{Agrees, NotedOnce, is_whole}
use Rattle.cbt_txn.proofs.Noting.{by_id, gone_here, gone_other, once_gone, once_set, set_here, set_other}

-- a function with one value set
pub value_here : {X : Type 0} (d : List ℕ) (x : X) (f : List ℕ → X) → with_value d x f d ≡ x
value_here d x f = ap (λ b. cond b x (f d)) (key_itself doc_order d)

pub value_other : {X : Type 0} (d : List ℕ) (x : X) (f : List ℕ → X) (q : List ℕ) → q ≢ d → with_value d x f q ≡ f q
value_other d x f q apart =
    ⊎_elim (λ (here : (is_eq (doc_cmp q d) ≡ true) × (q ≡ d)). absurd (apart here.1))
    (λ (other : (is_eq (doc_cmp q d) ≡ false) × (q ≢ d)). ap (λ b. cond b x (f q)) other.0) (key_cases doc_order q d)

pub past_grows : (xs l : List Made) → Descends (xs ++ l) → past_of l ≤ past_of (xs ++ l)
past_grows [] l falls = omega arith
past_grows (x ∷ xs) l falls = let high = above (x ∷ xs) l falls in let first = high.0 in omega arith

-- what agrees with an own write, and with a last reading
abbrev pub OwnIs : (List ℕ → Option OwnWrite) → List Made → List ℕ → Own → Type 0
OwnIs own l d w = (x : ℕ) × (v : OwnWrite) × (w.cas ≡ Some x) × (own d ≡ Some v) × (v.kind ≡ w.kind) × (v.content ≡ w.content) × HasCas l d v x

abbrev pub ReadIs : (List ℕ → Option LastRead) → List Made → List ℕ → Reading → Type 0
ReadIs read l d it = (last : LastRead) × (read d ≡ Some last) × IsReadAt d it (during last.span l) × (it.value ≡ last.value) × (it.moment ≡ last.moment)

-- over more calls
pub during_on : (last : LastRead) (xs l : List Made) → Descends (xs ++ l) → last.span.to ≤ past_of l → during last.span (xs ++ l) ≡ during last.span l
during_on last xs l falls low =
    during_front last.span xs l (each_more (λ m. past_of l ≤ m.answer.place) (λ m. last.span.to ≤ m.answer.place) xs (λ m it. omega arith) (above xs l falls))

pub agrees_on : (so : Sofar) (a : Attempt) (xs l : List Made) → Descends (xs ++ l) → Agrees so a l → Agrees so a (xs ++ l)
agrees_on so a xs l falls it = record {
  own_none = it.own_none;
  own_some = λ d w is. let own = it.own_some d w is in (own.0, own.1, own.2, own.3, own.4, own.5, once_back _ xs l own.6);
  seen_none = it.seen_none;
  seen_some = λ d seen is. let read = it.seen_some d seen is in
      (read.0, read.1, subst (λ k. IsReadAt d seen k) (sym (during_on read.0 xs l falls (it.ended d read.0 read.1))) read.2, read.3, read.4);
  ended = λ d last is. let low = it.ended d last is in let more = past_grows xs l falls in omega arith;
  sent = it.sent;
  whole = it.whole;
  written_once = it.written_once;
  read_once = it.read_once;
}

-- the entry was sent
pub agrees_sent : (so : Sofar) (a : Attempt) (r : ℕ) (l : List Made) → Agrees so a l → Agrees so (record a { sent = Some r }) l
agrees_sent so a r l it = record {
  own_none = it.own_none;
  own_some = it.own_some;
  seen_none = it.seen_none;
  seen_some = it.seen_some;
  ended = it.ended;
  sent = λ d w is. refl;
  whole = it.whole;
  written_once = it.written_once;
  read_once = it.read_once;
}

-- a name was bound
pub agrees_bound : (so : Sofar) (a : Attempt) (b : List ℕ → Option Json) (l : List Made) → Agrees so a l → Agrees (record so { bound = b }) a l
agrees_bound so a b l it = record {
  own_none = it.own_none;
  own_some = it.own_some;
  seen_none = it.seen_none;
  seen_some = it.seen_some;
  ended = it.ended;
  sent = it.sent;
  whole = it.whole;
  written_once = it.written_once;
  read_once = it.read_once;
}

-- a write was staged
module _ (so : Sofar) (a : Attempt) (l : List Made) (it : Agrees so a l) (d : List ℕ) (w : Own) (v : OwnWrite) where
  staged_none : (q : List ℕ) → noted (with_noted a.writes d w) q ≡ None → with_value d (Some v) so.own q ≡ None
  staged_none q none =
      by_id q d (λ same. absurd (none-some w (sym none ∙ ap (noted (with_noted a.writes d w)) same ∙ set_here a.writes d w)))
      (λ other. value_other d (Some v) so.own q other ∙ it.own_none q (sym (set_other a.writes d w q other) ∙ none))

  staged_some : (x : ℕ) → w.cas ≡ Some x → v.kind ≡ w.kind → v.content ≡ w.content → HasCas l d v x → (q : List ℕ) (o : Own)
      → noted (with_noted a.writes d w) q ≡ Some o → OwnIs (with_value d (Some v) so.own) l q o
  staged_some x cas kind content has q o is = by_id q d here there
    where
      here : q ≡ d → OwnIs (with_value d (Some v) so.own) l q o
      here same =
          subst (λ o. OwnIs (with_value d (Some v) so.own) l q o)
          (some_same (sym (set_here a.writes d w) ∙ sym (ap (noted (with_noted a.writes d w)) same) ∙ is))
          (subst (λ q. OwnIs (with_value d (Some v) so.own) l q w) (sym same) (x, v, cas, value_here d (Some v) so.own, kind, content, has))

      there : q ≢ d → OwnIs (with_value d (Some v) so.own) l q o
      there other =
          let old = it.own_some q o (sym (set_other a.writes d w q other) ∙ is) in
          (old.0, old.1, old.2, value_other d (Some v) so.own q other ∙ old.3, old.4, old.5, old.6)

  staged_whole : is_whole w.kind w.content ≡ true → (q : List ℕ) (o : Own) → noted (with_noted a.writes d w) q ≡ Some o → is_whole o.kind o.content ≡ true
  staged_whole whole q o is =
      by_id q d
      (λ same. subst (λ (o : Own). is_whole o.kind o.content ≡ true)
      (some_same (sym (set_here a.writes d w) ∙ sym (ap (noted (with_noted a.writes d w)) same) ∙ is)) whole)
      (λ other. it.whole q o (sym (set_other a.writes d w q other) ∙ is))

  pub agrees_staged : (x : ℕ) → w.cas ≡ Some x → v.kind ≡ w.kind → v.content ≡ w.content → HasCas l d v x → is_some a.sent ≡ true
      → is_whole w.kind w.content ≡ true → Agrees (record so { own = with_value d (Some v) so.own }) (record a { writes = with_noted a.writes d w }) l
  agrees_staged x cas kind content has sent whole = record {
    own_none = staged_none;
    own_some = staged_some x cas kind content has;
    seen_none = it.seen_none;
    seen_some = it.seen_some;
    ended = it.ended;
    sent = λ q o is. sent;
    whole = staged_whole whole;
    written_once = once_set a.writes d w it.written_once;
    read_once = it.read_once;
  }

-- a write was taken back
module _ (so : Sofar) (a : Attempt) (l : List Made) (it : Agrees so a l) (d : List ℕ) where
  gone_own : (q : List ℕ) → noted (without_noted a.writes d) q ≡ None → with_value d None so.own q ≡ None
  gone_own q none =
      by_id q d (λ same. ap (with_value d None so.own) same ∙ value_here d None so.own)
      (λ other. value_other d None so.own q other ∙ it.own_none q (sym (gone_other a.writes d q other) ∙ none))

  gone_read : (q : List ℕ) → noted (without_noted a.seen d) q ≡ None → with_value d None so.read q ≡ None
  gone_read q none =
      by_id q d (λ same. ap (with_value d None so.read) same ∙ value_here d None so.read)
      (λ other. value_other d None so.read q other ∙ it.seen_none q (sym (gone_other a.seen d q other) ∙ none))

  -- what is noted still is of another document
  kept : {V : Type 0} (notes : List (List ℕ × V)) → NotedOnce notes → (q : List ℕ) (v : V) → noted (without_noted notes d) q ≡ Some v → q ≢ d
  kept notes once q v is same = none-some v (sym (gone_here notes d once) ∙ sym (ap (noted (without_noted notes d)) same) ∙ is)

  left_own : (q : List ℕ) (o : Own) → noted (without_noted a.writes d) q ≡ Some o → OwnIs (with_value d None so.own) l q o
  left_own q o is =
      let other = kept a.writes it.written_once q o is in
      let old = it.own_some q o (sym (gone_other a.writes d q other) ∙ is) in
      (old.0, old.1, old.2, value_other d None so.own q other ∙ old.3, old.4, old.5, old.6)

  left_read : (q : List ℕ) (seen : Reading) → noted (without_noted a.seen d) q ≡ Some seen → ReadIs (with_value d None so.read) l q seen
  left_read q seen is =
      let other = kept a.seen it.read_once q seen is in
      let old = it.seen_some q seen (sym (gone_other a.seen d q other) ∙ is) in
      (old.0, value_other d None so.read q other ∙ old.1, old.2, old.3, old.4)

  left_ended : (q : List ℕ) (last : LastRead) → with_value d None so.read q ≡ Some last → last.span.to ≤ past_of l
  left_ended q last is =
      by_id q d (λ same. absurd (none-some last (sym (value_here d None so.read) ∙ sym (ap (with_value d None so.read) same) ∙ is)))
      (λ other. it.ended q last (sym (value_other d None so.read q other) ∙ is))

  pub agrees_unstaged : Agrees (record so { own = with_value d None so.own; read = with_value d None so.read })
      (record a { writes = without_noted a.writes d; seen = without_noted a.seen d }) l
  agrees_unstaged = record {
    own_none = gone_own;
    own_some = left_own;
    seen_none = gone_read;
    seen_some = left_read;
    ended = left_ended;
    sent = λ q o is. it.sent q o (sym (gone_other a.writes d q (kept a.writes it.written_once q o is)) ∙ is);
    whole = λ q o is. it.whole q o (sym (gone_other a.writes d q (kept a.writes it.written_once q o is)) ∙ is);
    written_once = once_gone a.writes d it.written_once;
    read_once = once_gone a.seen d it.read_once;
  }

-- a document was read
module _ (so : Sofar) (a : Attempt) (l : List Made) (it : Agrees so a l) (d : List ℕ) (seen : Reading) (last : LastRead) where
  read_none : (q : List ℕ) → noted (with_noted a.seen d seen) q ≡ None → with_value d (Some last) so.read q ≡ None
  read_none q none =
      by_id q d (λ same. absurd (none-some seen (sym none ∙ ap (noted (with_noted a.seen d seen)) same ∙ set_here a.seen d seen)))
      (λ other. value_other d (Some last) so.read q other ∙ it.seen_none q (sym (set_other a.seen d seen q other) ∙ none))

  read_some : IsReadAt d seen (during last.span l) → seen.value ≡ last.value → seen.moment ≡ last.moment → (q : List ℕ) (o : Reading)
      → noted (with_noted a.seen d seen) q ≡ Some o → ReadIs (with_value d (Some last) so.read) l q o
  read_some read value moment q o is = by_id q d here there
    where
      here : q ≡ d → ReadIs (with_value d (Some last) so.read) l q o
      here same =
          subst (λ o. ReadIs (with_value d (Some last) so.read) l q o)
          (some_same (sym (set_here a.seen d seen) ∙ sym (ap (noted (with_noted a.seen d seen)) same) ∙ is))
          (subst (λ q. ReadIs (with_value d (Some last) so.read) l q seen) (sym same) (last, value_here d (Some last) so.read, read, value, moment))

      there : q ≢ d → ReadIs (with_value d (Some last) so.read) l q o
      there other =
          let old = it.seen_some q o (sym (set_other a.seen d seen q other) ∙ is) in
          (old.0, value_other d (Some last) so.read q other ∙ old.1, old.2, old.3, old.4)

  read_ended : last.span.to ≤ past_of l → (q : List ℕ) (k : LastRead) → with_value d (Some last) so.read q ≡ Some k → k.span.to ≤ past_of l
  read_ended low q k is =
      by_id q d
      (λ same. subst (λ (k : LastRead). k.span.to ≤ past_of l)
      (some_same (sym (value_here d (Some last) so.read) ∙ sym (ap (with_value d (Some last) so.read) same) ∙ is)) low)
      (λ other. it.ended q k (sym (value_other d (Some last) so.read q other) ∙ is))

  pub agrees_read : (b : List ℕ → Option Json) → IsReadAt d seen (during last.span l) → seen.value ≡ last.value → seen.moment ≡ last.moment
      → last.span.to ≤ past_of l → Agrees (record so { bound = b; read = with_value d (Some last) so.read }) (record a { seen = with_noted a.seen d seen }) l
  agrees_read b read value moment low = record {
    own_none = it.own_none;
    own_some = it.own_some;
    seen_none = read_none;
    seen_some = read_some read value moment;
    ended = read_ended low;
    sent = it.sent;
    whole = it.whole;
    written_once = it.written_once;
    read_once = once_set a.seen d seen it.read_once;
  }
