use Rattle.std.proofs.Common.{◌≡◌, ◌<◌, ◌^◌, true, false, ◌∷◌, length, refl, sym, ap, ◌∙◌, subst, arith}
use Rattle.cbt_model.specs.declared.events.Made.{Made}
use Rattle.cbt_book.specs.Numbers.{Identity}
use Rattle.cbt_txn.specs.Clients.{Stands, running_left}
use Rattle.cbt_txn.specs.declared.clients.Client.{Client}
use Rattle.cbt_txn.proofs.Answering.{goes_now, ok_so, rests_now, running, stands_on}
use Rattle.cbt_txn.proofs.ClientBounds.{all_left, most_left, some_left}
use Rattle.cbt_txn.proofs.clients.ClientActor.learn.Goals as goal

-- ---- it goes on

pub returns-then-self-clause-stands : goal.returns-then-self-clause-stands
returns-then-self-clause-stands c l s asked stands =
    let it = c.args.self.now in
    let taken = c.take_in-taken.new.self in
    let r = c.take_in-taken.result in
    let rest = c.take_in-taken.ensures.rest in
    let new : Client = record taken { calls = c.saturating_add-self.result } in
    let m : Made = record { step = s; answer = c.args.answer } in
    let unstopped = running it c.requires.asked in
    let still : taken.stopped ≡ false = ap (λ (k : Client). k.stopped) rest ∙ unstopped in
    let who : Identity = record { number = it.origin.actor; cleaner = 0 } in
    let same : taken.calls ≡ it.calls = ap (λ (k : Client). k.calls) rest in
    let counted = stands.counted in
    let small : length l < 2 ^ 62 = stands.few unstopped in
    stands_on it new l m stands asked (ap (λ (k : Client). k.origin) rest) (omega (arith, c.saturating_add-self.ensures)) (λ is. c.if-self.true)
    (λ who is going. ok_so r (sym c.if-is_ok.ensures.value) (c.take_in-taken.ensures.licensed who l s is asked (stands.goes_on who is unstopped)))
    (λ falls. subst (λ b. Stands b new (m ∷ l)) (sym still)
    (ok_so r (sym c.if-is_ok.ensures.value)
    (c.take_in-taken.ensures.follows who l s refl asked falls (stands.goes_on who refl unstopped) (goes_now it l stands unstopped falls.1))))

pub returns-then-self-clause-fewer : goal.returns-then-self-clause-fewer
returns-then-self-clause-fewer c =
    let it = c.args.self.now in
    let new : Client = record c.take_in-taken.new.self { calls = c.saturating_add-self.result } in
    let less : running_left new < running_left it = ok_so c.take_in-taken.result (sym c.if-is_ok.ensures.value) c.take_in-taken.ensures.fewer in
    omega (arith, most_left new, all_left it c.requires.asked)

pub returns-then-self-clause-last : goal.returns-then-self-clause-last
returns-then-self-clause-last c l stands full =
    let same : c.take_in-taken.new.self.calls ≡ c.args.self.now.calls = ap (λ (k : Client). k.calls) c.take_in-taken.ensures.rest in
    let counted = stands.counted in
    let small : length l < 2 ^ 62 = stands.few (running c.args.self.now c.requires.asked) in
    absurd (omega (arith, c.saturating_add-self.ensures, c.if-self.true))

-- ---- it is stopped

pub returns-clause-stands : goal.returns-clause-stands
returns-clause-stands c l s asked stands =
    let it = c.args.self.now in
    let taken = c.take_in-taken.new.self in
    let r = c.take_in-taken.result in
    let rest = c.take_in-taken.ensures.rest in
    let new : Client = record taken { calls = c.saturating_add-self.result; stopped = true } in
    let m : Made = record { step = s; answer = c.args.answer } in
    let unstopped = running it c.requires.asked in
    let who : Identity = record { number = it.origin.actor; cleaner = 0 } in
    let same : taken.calls ≡ it.calls = ap (λ (k : Client). k.calls) rest in
    let counted = stands.counted in
    let small : length l < 2 ^ 62 = stands.few unstopped in
    stands_on it new l m stands asked (ap (λ (k : Client). k.origin) rest) (omega (arith, c.saturating_add-self.ensures)) (λ is. cc) (λ who is going. cc)
    (λ falls.
    rests_now r taken (m ∷ l) falls
    (c.take_in-taken.ensures.follows who l s refl asked falls (stands.goes_on who refl unstopped) (goes_now it l stands unstopped falls.1))
    (c.take_in-taken.ensures.halts who l s refl asked falls (stands.goes_on who refl unstopped) (goes_now it l stands unstopped falls.1)))

pub returns-clause-fewer : goal.returns-clause-fewer
returns-clause-fewer c = some_left c.args.self.now c.requires.asked
