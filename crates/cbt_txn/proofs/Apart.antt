-- What a document that changes hands shows: no reading ends its read, and no two show one CAS.
use Rattle.std.proofs.Common.{◌≡◌, ℕ, suc, ◌+◌, ◌⊎◌, inl, inr, ⊎_elim, List, [], ◌∷◌, ◌++◌, length, Option, Some, None, refl, sym, ap, ◌∙◌, subst, arith}
use Rattle.cbt_json.specs.declared.value.Json.{Json}
use Rattle.cbt_model.specs.declared.documents.Stage.{Stage}
use Rattle.cbt_model.specs.declared.entries.Entry.{Entry}
use Rattle.cbt_model.specs.declared.entries.EntryState.TheVariants.{Committed}
use Rattle.cbt_model.specs.declared.events.Made.{Made}
use Rattle.cbt_model.specs.declared.steps.Reply.{Reply}
use Rattle.cbt_model.specs.declared.steps.Reply.TheVariants as reply
use Rattle.cbt_model.specs.declared.steps.Step.{Step}
use Rattle.cbt_model.specs.declared.steps.Step.TheVariants as step
use Rattle.cbt_book.specs.Outcomes.{ChangesHands, once, again}
use Rattle.cbt_book.specs.OwnLists.{Once, Each}
use Rattle.cbt_book.specs.ReadAt.{Reading, IsReadAt}
use Rattle.cbt_book.specs.ReadAt as read_at
use Rattle.cbt_book.specs.Shown.{ReadsDoc, FindsNoDoc, ReadsEntry, FindsNoEntry}
use Rattle.cbt_core.specs.Staying.{ReadsAtCas, ShowsStagingOf, StaysAsShown}
use Rattle.cbt_read.specs.OpenReads.{LeavesOpen}
use Rattle.cbt_read.specs.OpenReads as open_reads

-- ---- own lists

-- what is so of no call of a list is so once of none
pub clash_once : (P : Made → Type 0) (Q : Made → List Made → Type 0) (l : List Made) → ((m : Made) (past : List Made) → P m → Q m past → ⊥)
    → Each (λ m _. P m) l → Once Q l → ⊥
clash_once P Q [] apart each once_so = once_so
clash_once P Q (m ∷ l) apart each once_so =
    ⊎_elim (λ (here : Q m l). apart m l each.0 here) (λ (past : Once Q l). clash_once P Q l apart each.1 past) once_so

-- what was so once is so on the longer list
pub once_front : (P Q : Made → List Made → Type 0) (xs ys : List Made) → ((m : Made) (past : List Made) → P m past → Q m (past ++ ys)) → Once P xs → Once Q (xs ++ ys)
once_front P Q [] ys more once_so = absurd once_so
once_front P Q (x ∷ xs) ys more once_so =
    ⊎_elim (λ (here : P x xs). inl (more x xs here)) (λ (past : Once P xs). inr (once_front P Q xs ys more past)) once_so

-- what was shown of a list stays so in its newest part
pub stays_front : (xs ys : List Made) → StaysAsShown (xs ++ ys) → StaysAsShown xs
stays_front [] ys stays = tt
stays_front (m ∷ xs) ys stays = (
  record {
    same = λ d x body old stage was reads earlier.
        stays.0.same d x body old stage was reads (once_front (λ n _. ReadsDoc d x old was n) (λ n _. ReadsDoc d x old was n) xs ys (λ n past it. it) earlier);
    left = λ d x y reads differs earlier.
        stays.0.left d x y reads differs
        (once_front (λ n older. ReadsAtCas d y n × Once (λ k _. ReadsAtCas d x k) older) (λ n older. ReadsAtCas d y n × Once (λ k _. ReadsAtCas d x k) older) xs ys
        (λ n past it. (it.0, once_front (λ k _. ReadsAtCas d x k) (λ k _. ReadsAtCas d x k) past ys (λ k older at. at) it.1)) earlier);
    decided = λ r a e was reads earlier.
        stays.0.decided r a e was reads (once_front (λ n _. ReadsEntry r a was n) (λ n _. ReadsEntry r a was n) xs ys (λ n past it. it) earlier);
    gone = λ r a e reads earlier.
        stays.0.gone r a e reads
        (once_front (λ n older. FindsNoEntry r a n × Once (λ k _. ShowsStagingOf r a k) older) (λ n older. FindsNoEntry r a n × Once (λ k _. ShowsStagingOf r a k) older) xs ys
        (λ n past it. (it.0, once_front (λ k _. ShowsStagingOf r a k) (λ k _. ShowsStagingOf r a k) past ys (λ k older at. at) it.1)) earlier);
  },
  stays_front xs ys stays.1,
)

pub stays_back : (xs ys : List Made) → StaysAsShown (xs ++ ys) → StaysAsShown ys
stays_back [] ys stays = stays
stays_back (m ∷ xs) ys stays = stays_back xs ys stays.1

-- ---- answers that differ

pub absent_doc : {r : Reply} {x : ℕ} {body : Option Json} {stage : Option Stage} → r ≡ reply.Absent → r ≡ reply.Doc x body stage → ⊥
absent_doc one two = cc

pub unstaged_staged : {r : Reply} {x y : ℕ} {body other : Option Json} {stage : Stage} → r ≡ reply.Doc x body None → r ≡ reply.Doc y other (Some stage) → ⊥
unstaged_staged one two = cc

pub doc_entry : {s : Step} {d : List ℕ} {r a : ℕ} → s ≡ step.ReadDoc d → s ≡ step.ReadEntry r a → ⊥
doc_entry one two = cc

pub missing_entry : {r : Reply} {e : Entry} → r ≡ reply.NoEntry → r ≡ reply.Entry e → ⊥
missing_entry one two = cc

pub same_entry : {r : Reply} {e f : Entry} → r ≡ reply.Entry e → r ≡ reply.Entry f → e ≡ f
same_entry one two = cc

pub same_cas : {r : Reply} {x y : ℕ} {body other : Option Json} {stage was : Option Stage} → r ≡ reply.Doc x body stage → r ≡ reply.Doc y other was → x ≡ y
same_cas one two = cc

-- ---- what leaves a read open

-- no two readings of these show the document at one CAS
abbrev pub TwiceAt : List ℕ → ℕ → List Made → Type 0
TwiceAt d x l = Once (λ m before. ReadsAtCas d x m × Once (λ k _. ReadsAtCas d x k) before) l

pub record IsOpen (d : List ℕ) (l : List Made) : Type 0 where
  pub leaves : Each (λ m _. LeavesOpen d m) l
  pub apart : (x : ℕ) → TwiceAt d x l → ⊥

-- an entry that was asked for is committed or not there
asked_leaves : (d : List ℕ) (old : Stage) (m : Made) → ((e : Entry) × ReadsEntry old.atr old.attempt e m × (e.state ≡ Committed)) ⊎ FindsNoEntry old.atr old.attempt m
    → LeavesOpen d m
asked_leaves d old m told = ⊎_elim (λ it. open_reads.committed old.atr old.attempt it.0 it.1 it.2) (λ it. open_reads.missing old.atr old.attempt it) told

asked_step : (old : Stage) (m : Made) → ((e : Entry) × ReadsEntry old.atr old.attempt e m × (e.state ≡ Committed)) ⊎ FindsNoEntry old.atr old.attempt m
    → m.step ≡ step.ReadEntry old.atr old.attempt
asked_step old m told = ⊎_elim (λ it. it.1.0) (λ it. it.0) told

-- ---- a document that changes hands

-- the newest of its readings
pub record Newest (d : List ℕ) (x : ℕ) (stage : Stage) (l : List Made) : Type 0 where
  pub newest : Made
  pub older : List Made
  pub l_is : l ≡ newest ∷ older
  pub body : Option Json
  pub reads : ReadsDoc d x body (Some stage) newest

pub newest_of : (d : List ℕ) (n x : ℕ) (stage : Stage) (l : List Made) → ChangesHands d n x stage l → Newest d x stage l
newest_of d n x stage l (once y held m body read) = record { newest = m; older = []; l_is = refl; body = body; reads = read }
newest_of d n x stage l (again k w y old held m asked older body read apart told hands) =
    record { newest = m; older = asked ∷ older; l_is = refl; body = body; reads = read }

pub hands_leave : (d : List ℕ) (n x : ℕ) (stage : Stage) (l : List Made) → ChangesHands d n x stage l → Each (λ m _. LeavesOpen d m) l
hands_leave d n x stage l (once y held m body read) = (open_reads.staged y body held read, tt)
hands_leave d n x stage l (again k w y old held m asked older body read apart told hands) =
    (open_reads.staged y body held read, (asked_leaves d old asked told, hands_leave d k w old older hands))

pub hands_long : (d : List ℕ) (n x : ℕ) (stage : Stage) (l : List Made) → ChangesHands d n x stage l → suc (length l) ≡ n + n
hands_long d n x stage l (once y held m body read) = refl
hands_long d n x stage l (again k w y old held m asked older body read apart told hands) = let before = hands_long d k w old older hands in omega arith

pub hands_apart : (d : List ℕ) (n x : ℕ) (stage : Stage) (l : List Made) → StaysAsShown l → ChangesHands d n x stage l → (z : ℕ) → TwiceAt d z l → ⊥
hands_apart d n x stage l stays (once y held m body read) z twice = ⊎_elim (λ here. here.1) (λ past. past) twice
hands_apart d n x stage l stays (again k w y old held m asked older body read apart told hands) z twice =
    ⊎_elim (λ here. newest_twice here)
    (λ (past : TwiceAt d z (asked ∷ older)). ⊎_elim (λ here. doc_entry here.0.2.0 (asked_step old asked told))
    (λ (deep : TwiceAt d z older). hands_apart d k w old older stays.1.1 hands z deep) past) twice
  where
    head : Newest d w old older
    head = newest_of d k w old older hands

    newest_twice : ReadsAtCas d z m × Once (λ n _. ReadsAtCas d z n) (asked ∷ older) → ⊥
    newest_twice here =
        ⊎_elim (λ (at : ReadsAtCas d z asked). doc_entry at.2.0 (asked_step old asked told))
        (λ (past : Once (λ n _. ReadsAtCas d z n) older). in_past (subst (λ k. Once (λ n _. ReadsAtCas d z n) k) head.l_is past)) here.1
      where
        z_is : z ≡ y
        z_is = same_cas here.0.2.1 read.1

        in_past : Once (λ n _. ReadsAtCas d z n) (head.newest ∷ head.older) → ⊥
        in_past past =
            ⊎_elim (λ (at : ReadsAtCas d z head.newest). apart (sym z_is ∙ same_cas at.2.1 head.reads.1))
            (λ (deep : Once (λ n _. ReadsAtCas d z n) head.older).
            stays.0.left d z w here.0 (λ w_is. apart (sym (w_is ∙ z_is)))
            (inr (subst (λ k. Once (λ n older. ReadsAtCas d w n × Once (λ k _. ReadsAtCas d z k) older) k) (sym head.l_is)
            (inl ((head.body, Some old, head.reads), deep))))) past

-- it leaves a read open
pub hands_open : (d : List ℕ) (n x : ℕ) (stage : Stage) (l : List Made) → StaysAsShown l → ChangesHands d n x stage l → IsOpen d l
hands_open d n x stage l stays hands = record { leaves = hands_leave d n x stage l hands; apart = hands_apart d n x stage l stays hands }

-- ---- calls that leave a read open have read nothing

pub leaves_present : (d : List ℕ) (m : Made) → LeavesOpen d m → FindsNoDoc d m → ⊥
leaves_present d m (open_reads.staged x body stage reads) none = absent_doc none.1 reads.1
leaves_present d m (open_reads.committed r a e reads is) none = doc_entry none.0 reads.0
leaves_present d m (open_reads.missing r a finds) none = doc_entry none.0 finds.0

pub leaves_staged : (d : List ℕ) (x : ℕ) (body : Option Json) (m : Made) → LeavesOpen d m → ReadsDoc d x body None m → ⊥
leaves_staged d x body m (open_reads.staged y other stage reads) bare = unstaged_staged bare.1 reads.1
leaves_staged d x body m (open_reads.committed r a e reads is) bare = doc_entry bare.0 reads.0
leaves_staged d x body m (open_reads.missing r a finds) bare = doc_entry bare.0 finds.0

pub leaves_committed : (d : List ℕ) (r a : ℕ) (e : Entry) (m : Made) → LeavesOpen d m → ReadsEntry r a e m → e.state ≡ Committed
leaves_committed d r a e m (open_reads.staged y other stage reads) shown = absurd (doc_entry reads.0 shown.0)
leaves_committed d r a e m (open_reads.committed q b f reads is) shown = ap (λ (k : Entry). k.state) (same_entry shown.1 reads.1) ∙ is
leaves_committed d r a e m (open_reads.missing q b finds) shown = absurd (missing_entry finds.1 shown.1)

-- a reading that stands on two of one CAS
once_more : (P Q : Made → List Made → Type 0) (l : List Made) → ((m : Made) (past : List Made) → P m past → Q m past) → Once P l → Once Q l
once_more P Q [] more once_so = absurd once_so
once_more P Q (m ∷ l) more once_so = ⊎_elim (λ (here : P m l). inl (more m l here)) (λ (past : Once P l). inr (once_more P Q l more past)) once_so

-- what is so once before some call is so once
pub once_before : (P : Made → List Made → Type 0) (Q : Made → List Made → Type 0) (l : List Made) → ((n : Made) (past : List Made) → P n past → Once Q past) → Once P l → Once Q l
once_before P Q [] more once_so = absurd once_so
once_before P Q (m ∷ l) more once_so =
    ⊎_elim (λ (here : P m l). inr (more m l here)) (λ (past : Once P l). inr (once_before P Q l more past)) once_so

pub twice_committed : (d : List ℕ) (x : ℕ) (stage : Stage) (e : Entry) (moment : ℕ) (l : List Made)
    → Once (λ m before. ((body : Option Json) × (more : Option Stage) × ReadsDoc d x body more m)
    × Once (λ n earlier. (n.answer.place ≡ moment) × ReadsEntry stage.atr stage.attempt e n
    × Once (λ k _. (body : Option Json) × ReadsDoc d x body (Some stage) k) earlier) before) l → TwiceAt d x l
twice_committed d x stage e moment l once_so =
    once_more _ _ l (λ m before is. (
      is.0,
      once_before _ (λ k _. ReadsAtCas d x k) before
          (λ n earlier found. once_more _ (λ k _. ReadsAtCas d x k) earlier (λ k older reads. (reads.0, Some stage, reads.1)) found.2) is.1,
    )) once_so

pub twice_dead : (d : List ℕ) (x : ℕ) (stage : Stage) (value : Option Json) (moment : ℕ) (l : List Made)
    → Once (λ m before. (m.answer.place ≡ moment) × ((more : Option Stage) × ReadsDoc d x value more m)
    × Once (λ n earlier. FindsNoEntry stage.atr stage.attempt n
    × Once (λ k _. (body : Option Json) × ReadsDoc d x body (Some stage) k) earlier) before) l → TwiceAt d x l
twice_dead d x stage value moment l once_so =
    once_more _ _ l (λ m before is. (
      (value, is.1.0, is.1.1),
      once_before _ (λ k _. ReadsAtCas d x k) before
          (λ n earlier found. once_more _ (λ k _. ReadsAtCas d x k) earlier (λ k older reads. (reads.0, Some stage, reads.1)) found.1) is.2,
    )) once_so

pub open_unread : (d : List ℕ) (it : Reading) (l : List Made) → IsOpen d l → IsReadAt d it l → ⊥
open_unread d it l still (read_at.absent value cas by gone once_so) =
    clash_once (λ m. LeavesOpen d m) (λ m _. (m.answer.place ≡ it.moment) × FindsNoDoc d m) l (λ m past leaves is. leaves_present d m leaves is.1) still.leaves once_so
open_unread d it l still (read_at.unstaged x cas by gone once_so) =
    clash_once (λ m. LeavesOpen d m) (λ m _. (m.answer.place ≡ it.moment) × ReadsDoc d x it.value None m) l
    (λ m past leaves is. leaves_staged d x it.value m leaves is.1) still.leaves once_so
open_unread d it l still (read_at.uncommitted x stage e cas by gone state once_so) =
    clash_once (λ m. LeavesOpen d m)
    (λ m before. ReadsEntry stage.atr stage.attempt e m × Once (λ n _. (n.answer.place ≡ it.moment) × ReadsDoc d x it.value (Some stage) n) before) l
    (λ m past leaves is. state (leaves_committed d stage.atr stage.attempt e m leaves is.0)) still.leaves once_so
open_unread d it l still (read_at.committed x stage e cas by gone value state once_so) = still.apart x (twice_committed d x stage e it.moment l once_so)
open_unread d it l still (read_at.dead x stage cas by gone once_so) = still.apart x (twice_dead d x stage it.value it.moment l once_so)
