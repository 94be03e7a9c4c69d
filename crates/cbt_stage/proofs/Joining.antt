-- The calls of a put behind those of a get are the calls of a write.
use Rattle.std.proofs.Common.{◌≡◌, ℕ, ◌+◌, Bool, true, false, cond, inl, inr, ⊎_elim, List, [], ◌∷◌, ◌++◌, count_by, Some, None, refl, ap, ◌∙◌, subst, arith}
use Rattle.std.specs.List.{filter_map, cons_option}
use Rattle.std.proofs.lemmas.List.{append-nil}
use Rattle.std.proofs.lemmas.List.Sums.{sum_by-append}
use Rattle.cbt_model.specs.declared.events.Made.{Made}
use Rattle.cbt_model.specs.declared.steps.Reply.{Reply}
use Rattle.cbt_model.specs.declared.steps.Step.{Step}
use Rattle.cbt_model.specs.declared.steps.Step.TheVariants as step
use Rattle.cbt_book.specs.Calls.{reads_doc, reads_entry, adds_entry, writes_doc, count_met, doc_reply, stagings_met, MayGet, MayWrite, WriteTerms, GetCalls, WriteCalls}
use Rattle.cbt_book.specs.Outcomes.{AskedFourTimes, EndsFailed}
use Rattle.cbt_book.specs.OwnLists.{Once, Each}
use Rattle.cbt_stage.specs.PutCalls.{PutCalls}
use Rattle.cbt_stage.specs.Standing.{EndsStaging}
use Rattle.cbt_stage.specs.declared.tasks.Task.{Task}
use Rattle.cbt_stage.proofs.Counting.{counts_not}

-- what is so of a call in one of two lists
module _ (P : Made → Type 0) where
  pub once_first : (l r : List Made) → Once (λ m _. P m) l → Once (λ m _. P m) (l ++ r)
  once_first [] r once = absurd once
  once_first (m ∷ l) r once = ⊎_elim (λ here. inl here) (λ later. inr (once_first l r later)) once

  pub once_second : (l r : List Made) → Once (λ m _. P m) r → Once (λ m _. P m) (l ++ r)
  once_second [] r once = once
  once_second (m ∷ l) r once = inr (once_second l r once)

  pub neither : (l r : List Made) → ¬ Once (λ m _. P m) l → ¬ Once (λ m _. P m) r → ¬ Once (λ m _. P m) (l ++ r)
  neither [] r none_first none_second once = none_second once
  neither (m ∷ l) r none_first none_second once =
      ⊎_elim (λ here. none_first (inl here)) (λ later. neither l r (λ it. none_first (inr it)) none_second later) once

  pub each_both : (l r : List Made) → Each (λ m _. P m) l → Each (λ m _. P m) r → Each (λ m _. P m) (l ++ r)
  each_both [] r first second = second
  each_both (m ∷ l) r first second = (first.0, each_both l r first.1 second)

pub once_weaker : (P Q : Made → List Made → Type 0) (l : List Made) → ((m : Made) (before : List Made) → Q m before → P m before) → Once Q l → Once P l
once_weaker P Q [] weaker once = absurd once
once_weaker P Q (m ∷ l) weaker once = ⊎_elim (λ here. inl (weaker m l here)) (λ later. inr (once_weaker P Q l weaker later)) once

pub each_weaker : (P Q : Made → Type 0) (l : List Made) → ((m : Made) → P m → Q m) → Each (λ m _. P m) l → Each (λ m _. Q m) l
each_weaker P Q [] weaker each = record {}
each_weaker P Q (m ∷ l) weaker each = (weaker m each.0, each_weaker P Q l weaker each.1)

pub none_of : (P Q : Made → Type 0) (l : List Made) → ((m : Made) → P m → Q m → ⊥) → Each (λ m _. P m) l → ¬ Once (λ m _. Q m) l
none_of P Q [] apart each once = once
none_of P Q (m ∷ l) apart each once = ⊎_elim (λ here. apart m each.0 here) (λ later. none_of P Q l apart each.1 later) once

none_counted : (p : Made → Bool) (l : List Made) → Each (λ m _. p m ≡ false) l → count_by p l ≡ 0
none_counted p [] each = refl
none_counted p (m ∷ l) each = counts_not p m l each.0 ∙ none_counted p l each.1

counted : (p : Made → Bool) (l r : List Made) → count_by p (l ++ r) ≡ count_by p l + count_by p r
counted p l r = sum_by-append (λ x. cond (p x) 1 0) l r

-- calls that read no document meet no staging
abbrev replies : List Made → List Reply
replies l = filter_map doc_reply l

replies_same : (l r : List Made) → Each (λ m _. reads_doc m.step ≡ false) l → replies (l ++ r) ≡ replies r
replies_same [] r each = refl
replies_same (m ∷ l) r each = ap (λ b. cons_option (cond b (Some m.answer.reply) None) (replies (l ++ r))) each.0 ∙ replies_same l r each.1

-- what a get may call
get_writes : (t : WriteTerms) (d : List ℕ) (s : Step) → MayGet d s → MayWrite t d s
get_writes t d (step.ReadDoc q) may = may
get_writes t d (step.ReadEntry r a) may = may
get_writes t d _ may = absurd may

get_adds_none : (d : List ℕ) (s : Step) → MayGet d s → adds_entry s ≡ false
get_adds_none d (step.ReadDoc q) may = refl
get_adds_none d (step.ReadEntry r a) may = refl
get_adds_none d _ may = absurd may

get_writes_none : (d : List ℕ) (s : Step) → MayGet d s → writes_doc s ≡ false
get_writes_none d (step.ReadDoc q) may = refl
get_writes_none d (step.ReadEntry r a) may = refl
get_writes_none d _ may = absurd may

abbrev Writes : Made → Type 0
Writes m = writes_doc m.step ≡ true

abbrev WritesLast : List Made → Type 0
WritesLast l = Each (λ m before. ¬ Once (λ n _. Writes n) before) l

unwritten : (d : List ℕ) (reads : List Made) → Each (λ m _. MayGet d m.step) reads → ¬ Once (λ n _. Writes n) reads
unwritten d reads only = none_of (λ m. MayGet d m.step) Writes reads (λ m may writes. no_write (get_writes_none d m.step may) writes) only
  where
    no_write : {b : Bool} → b ≡ false → b ≡ true → ⊥
    no_write one two = cc

none_written : (d : List ℕ) (reads : List Made) → Each (λ m _. MayGet d m.step) reads → WritesLast reads
none_written d [] only = record {}
none_written d (m ∷ reads) only = (unwritten d reads only.1, none_written d reads only.1)

written_last : (mine reads : List Made) → WritesLast mine → ¬ Once (λ n _. Writes n) reads → WritesLast reads → WritesLast (mine ++ reads)
written_last [] reads last none readings = readings
written_last (m ∷ mine) reads last none readings = (neither Writes mine reads last.0 none, written_last mine reads last.1 none readings)

pub write_calls : (t : WriteTerms) (d : List ℕ) (mine reads : List Made) → PutCalls t d mine → GetCalls d reads → WriteCalls t d (mine ++ reads)
write_calls t d mine reads put get =
    let docs = counted (λ m. reads_doc m.step) mine reads in
    let no_docs = none_counted (λ m. reads_doc m.step) mine put.unread in
    let asks = counted (λ m. reads_entry m.step) mine reads in
    let adds = counted (λ m. adds_entry m.step) mine reads in
    let no_adds = none_counted (λ m. adds_entry m.step) reads (each_weaker (λ m. MayGet d m.step) (λ m. adds_entry m.step ≡ false) reads (λ m may. get_adds_none d m.step may) get.only) in
    let met : stagings_met (mine ++ reads) ≡ stagings_met reads = ap count_met (replies_same mine reads put.unread) in
    let few = put.entries in
    let one = put.added in
    let few_docs = get.readings in
    let few_asks = get.entries in
    record {
      only = each_both (λ m. MayWrite t d m.step) mine reads put.only (each_weaker (λ m. MayGet d m.step) (λ m. MayWrite t d m.step) reads (λ m may. get_writes t d m.step may) get.only);
      readings = omega arith;
      entries = omega arith;
      added = omega arith;
      written_last = written_last mine reads put.written_last (unwritten d reads get.only) (none_written d reads get.only);
    }

no_calls : (d : List ℕ) → GetCalls d []
no_calls d = record { only = record {}; readings = omega arith; entries = omega arith }

-- a write without a get
pub own_calls : (t : WriteTerms) (d : List ℕ) (mine : List Made) → PutCalls t d mine → WriteCalls t d mine
own_calls t d mine put = subst (λ l. WriteCalls t d l) (append-nil mine) (write_calls t d mine [] put (no_calls d))

-- what the calls of a put come to they come to behind those of a get
pub staging_behind : (o : Task) (P : Made → Type 0) (mine reads : List Made) → EndsStaging o P mine → EndsStaging o P (mine ++ reads)
staging_behind o P mine reads it =
    record {
      newest = it.newest;
      older = it.older ++ reads;
      calls_are = ap (λ l. l ++ reads) it.calls_are;
      stages_write = it.stages_write;
      answered = it.answered;
    }

pub blocked_behind : (r by : ℕ) (mine reads : List Made) → AskedFourTimes r by [] mine → AskedFourTimes r by reads (mine ++ reads)
blocked_behind r by mine reads it =
    record { asked = it.asked; calls_are = ap (λ l. l ++ reads) (it.calls_are ∙ append-nil it.asked); four = it.four; shown = it.shown }

pub failed_behind : (place : ℕ) (mine reads : List Made) → EndsFailed place mine → EndsFailed place (mine ++ reads)
failed_behind place mine reads it =
    record { newest = it.newest; older = it.older ++ reads; calls_are = ap (λ l. l ++ reads) it.calls_are; failed = it.failed; place_is = it.place_is }
