-- No line of a history text is called bad.
use Rattle.std.proofs.Common.{◌≡◌, ℕ, zero, suc, ◌+◌, ◌≤◌, eqb, Bool, true, false, cond, List, [], ◌∷◌, ◌++◌, append_assoc, length, take, codes, Option, Some, None, Result, Ok, Err, refl, sym, ap, ◌∙◌, subst, arith, length-append}
use Rattle.std.specs.List.{AllByRecursion}
use Rattle.std.proofs.lemmas.List.{append-nil}
use Rattle.cbt_lex.specs.Lines.{lined}
use Rattle.cbt_lex.specs.Pieces.{pieces}
use Rattle.cbt_lex.proofs.LinesBack.{NoFeed, lined_append}
use Rattle.cbt_lex.proofs.Pieces.{pieces_behind}
use Rattle.cbt_model.specs.declared.events.Event.{Event}
use Rattle.cbt_script.specs.declared.script.Script.{Script}
use Rattle.cbt_history.specs.declared.faults.HistoryFault.{HistoryFault}
use Rattle.cbt_history.specs.declared.faults.HistoryFault.TheVariants.{BadLine}
use Rattle.cbt_history.specs.EventsRead.{event_at}
use Rattle.cbt_history.specs.HistoriesRead.{Parts, with_line, parts_of, with_event, events_in, with_script, events_of, parts_read}
use Rattle.cbt_history.specs.ScriptsRead.{canonical, goes_on, bad_line, or_bad_line, script_in}
use Rattle.cbt_history.proofs.BadLines.{bad_line-cons}
use Rattle.cbt_history.proofs.Fronts.{Lines}
use Rattle.cbt_history.proofs.Pieces.{HasPieces, some_piece}
use Rattle.cbt_history.proofs.ScriptBack.{IsOther}
use Rattle.cbt_history.proofs.Sections.{parts_of-cons}
use Rattle.cbt_history.proofs.StepsBack.{words_differ}

-- the line that a text was refused at, or none
abbrev pub Refused : {X : Type 0} → Result X HistoryFault → ℕ → Type 0
Refused {X} read m = ◌≡◌ {A = Result X HistoryFault} read (Err (BadLine m))

-- ---- lines behind which others stand

-- a first piece of lines, or of what stands behind them
pub pieces_of_lines : (lines : Lines) (rest : List ℕ) → AllByRecursion NoFeed lines → pieces 10 (lined lines ++ rest) ≡ lines ++ pieces 10 rest
pieces_of_lines [] rest feeds = refl
pieces_of_lines (line ∷ lines) rest feeds =
    ap (pieces 10) (append_assoc (line ++ 10 ∷ []) (lined lines) rest ∙ append_assoc line (10 ∷ []) (lined lines ++ rest)) ∙ pieces_behind 10 line (lined lines ++ rest) feeds.0
    ∙ ap (λ ps. line ∷ ps) (pieces_of_lines lines rest feeds.1)

has_pieces : (lines ps : Lines) → HasPieces ps → HasPieces (lines ++ ps)
has_pieces [] ps has = has
has_pieces (line ∷ lines) ps has = record { first = line; behind = lines ++ ps; parts = refl }

-- ---- the bad line of a script

bad_line_if : (t : Bool) (n m : ℕ) → n + 1 ≤ m → n ≤ cond t m n
bad_line_if true n m high = omega arith
bad_line_if false n m high = omega arith

bad_line_high : (n : ℕ) (before : List ℕ) (ps : Lines) → n ≤ bad_line n before ps
bad_line_high n before [] = omega arith
bad_line_high n before (line ∷ []) = omega arith
bad_line_high n before (line ∷ next ∷ more) =
    bad_line_if (goes_on (before ++ (line ++ 10 ∷ []))) n (bad_line (n + 1) (before ++ (line ++ 10 ∷ [])) (next ∷ more))
    (bad_line_high (n + 1) (before ++ (line ++ 10 ∷ [])) (next ∷ more))

-- each run of these lines goes on, behind others
abbrev pub AllGoOn : List ℕ → Lines → Type 0
AllGoOn before [] = Unit {0}
AllGoOn before (line ∷ lines) = (goes_on (before ++ (line ++ 10 ∷ [])) ≡ true) × AllGoOn (before ++ (line ++ 10 ∷ [])) lines

pub all_go_on : (before : List ℕ) (lines : Lines) → ((k : ℕ) → goes_on (before ++ lined (take k lines)) ≡ true) → AllGoOn before lines
all_go_on before [] on = tt
all_go_on before (line ∷ lines) on =
    let next = before ++ (line ++ 10 ∷ []) in (
      ap (λ t. goes_on (before ++ t)) (sym (append-nil (line ++ 10 ∷ []))) ∙ on (suc zero),
      all_go_on next lines (λ k. ap goes_on (append_assoc before (line ++ 10 ∷ []) (lined (take k lines))) ∙ on (suc k)),
    )

pub first_go_on : (before : List ℕ) (lines more : Lines) → AllGoOn before (lines ++ more) → AllGoOn before lines
first_go_on before [] more on = tt
first_go_on before (line ∷ lines) more on = (on.0, first_go_on (before ++ (line ++ 10 ∷ [])) lines more on.1)

bad_line_behind : (n : ℕ) (before : List ℕ) (lines ps : Lines) → HasPieces ps → AllGoOn before lines → n + length lines ≤ bad_line n before (lines ++ ps)
bad_line_behind n before [] ps has on = let high = bad_line_high n before ps in omega arith
bad_line_behind n before (line ∷ lines) ps has on =
    let next = before ++ (line ++ 10 ∷ []) in
    let high : n + 1 + length lines ≤ bad_line (n + 1) next (lines ++ ps) = bad_line_behind (n + 1) next lines ps has on.1 in
    let here : bad_line n before (line ∷ (lines ++ ps)) ≡ bad_line (n + 1) next (lines ++ ps) =
    bad_line-cons n before line (lines ++ ps) (has_pieces lines ps has) ∙ ap (λ t. cond t (bad_line (n + 1) next (lines ++ ps)) n) on.0 in
    omega arith

or_bad_high : (o : Option Script) (text : List ℕ) (m k : ℕ) → k ≤ bad_line 2 [] (pieces 10 text) → Refused (or_bad_line text o) m → k ≤ m
or_bad_high (Some s) text m k high is = absurd (cc)
or_bad_high None text m k high is = let e : bad_line 2 [] (pieces 10 text) ≡ m = cc in omega arith

-- where a script begins with lines that go on, its bad line stands behind them
script_high : (lines more : Lines) (m : ℕ) → AllByRecursion NoFeed lines → AllGoOn [] lines → Refused (script_in (lined (lines ++ more))) m → 2 + length lines ≤ m
script_high lines more m feeds on is =
    let text = lined (lines ++ more) in
    let parts : pieces 10 text ≡ lines ++ pieces 10 (lined more) = ap (pieces 10) (lined_append lines more) ∙ pieces_of_lines lines (lined more) feeds in
    or_bad_high (canonical text) text m (2 + length lines)
    (subst (λ ps. 2 + length lines ≤ bad_line 2 [] ps) (sym parts) (bad_line_behind 2 [] lines (pieces 10 (lined more)) (some_piece (lined more)) on)) is

-- ---- the bad line of events

with_event_high : (o : Option Event) (n m : ℕ) (more : Result (List Event) HistoryFault) → ((k : ℕ) → Refused more k → n + 1 ≤ k) → Refused (with_event o n more) m → n ≤ m
with_event_high None n m more high is = let e : n ≡ m = cc in omega arith
with_event_high (Some e) n m (Ok events) high is = absurd (cc)
with_event_high (Some e) n m (Err fault) high is = let up : n + 1 ≤ m = high m is in omega arith

abbrev no_events : Result (List Event) HistoryFault
no_events = Ok []

last_high : (t : Bool) (n m : ℕ) → Refused (cond t no_events (Err (BadLine n))) m → n ≤ m
last_high true n m is = absurd (cc)
last_high false n m is = let e : n ≡ m = cc in omega arith

pub events_high : (n place : ℕ) (ps : Lines) (m : ℕ) → Refused (events_in n place ps) m → n ≤ m
events_high n place [] m is = absurd (cc)
events_high n place (rest ∷ []) m is = last_high (eqb (length rest) 0) n m is
events_high n place (line ∷ next ∷ more) m is =
    with_event_high (event_at place line) n m (events_in (n + 1) (place + 1) (next ∷ more)) (λ k bad. events_high (n + 1) (place + 1) (next ∷ more) k bad) is

events_of_high : (n m : ℕ) (events : Option Lines) → Refused (events_of n events) m → n ≤ m
events_of_high n m (Some lines) is = let up = events_high (n + 1) 0 lines m is in omega arith
events_of_high n m None is = let e : n ≡ m = cc in omega arith

-- ---- a text that begins with lines of a script

-- lines in front of the script's
abbrev pub in_front : Lines → Parts → Parts
in_front lines parts = record { script = lines ++ parts.script; events = parts.events }

parts_front : (lines : Lines) (rest : List ℕ) → AllByRecursion NoFeed lines → AllByRecursion IsOther lines
    → parts_of (pieces 10 (lined lines ++ rest)) ≡ in_front lines (parts_of (pieces 10 rest))
parts_front lines rest feeds other = ap parts_of (pieces_of_lines lines rest feeds) ∙ go lines other
  where
    go : (lines : Lines) → AllByRecursion IsOther lines → parts_of (lines ++ pieces 10 rest) ≡ in_front lines (parts_of (pieces 10 rest))
    go [] other = refl
    go (line ∷ lines) other =
        parts_of-cons line (lines ++ pieces 10 rest) (has_pieces lines (pieces 10 rest) (some_piece rest))
        ∙ ap (λ t. cond t (record { script = []; events = Some (lines ++ pieces 10 rest) }) (with_line line (parts_of (lines ++ pieces 10 rest)))) (words_differ line (codes "events") other.0)
        ∙ ap (with_line line) (go lines other.1)

pub with_script_high : (r : Result Script HistoryFault) (events : Result (List Event) HistoryFault) (k m : ℕ) → ((i : ℕ) → Refused r i → k ≤ i) → ((i : ℕ) → Refused events i → k ≤ i)
    → Refused (with_script r events) m → k ≤ m
with_script_high (Err fault) events k m one two is = let e : fault ≡ BadLine m = cc in one m (ap Err e)
with_script_high (Ok s) (Err fault) k m one two is = let e : fault ≡ BadLine m = cc in two m (ap Err e)
with_script_high (Ok s) (Ok events) k m one two is = absurd (cc)

pub inside_script : (lines : Lines) (rest : List ℕ) (m : ℕ) → AllByRecursion NoFeed lines → AllByRecursion IsOther lines → AllGoOn [] lines
    → Refused (parts_read (parts_of (pieces 10 (lined lines ++ rest)))) m → 2 + length lines ≤ m
inside_script lines rest m feeds other on is =
    let parts = parts_of (pieces 10 rest) in
    let all = lines ++ parts.script in
    with_script_high (script_in (lined all)) (events_of (length all + 2) parts.events) (2 + length lines) m
    (λ i bad. script_high lines parts.script i feeds on bad)
    (λ i bad. (let up = events_of_high (length all + 2) i parts.events bad in omega (arith, length-append lines parts.script)))
    (sym (ap parts_read (parts_front lines rest feeds other)) ∙ is)
