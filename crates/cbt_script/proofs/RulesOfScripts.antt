-- A script that was read keeps the rules.
use Rattle.std.proofs.Common.{◌≡◌, ℕ, ◌+◌, ◌≤◌, Bool, true, false, cond, List, [], ◌∷◌, ◌++◌, length, map, Option, Some, None, Result, Ok, Err, refl, sym, ap, subst, arith}
use Rattle.std.specs.List.{All}
use Rattle.std.specs.Str.{is_utf8}
use Rattle.std.proofs.lemmas.List.{length-map}
use Rattle.std.proofs.lemmas.List.Elements.{All-head, All-tail, All-weaker}
use Rattle.cbt_expr.specs.declared.plans.ClientPlan.{ClientPlan}
use Rattle.cbt_lex.specs.Lines.{trimmed, lines_of, IsOneLine}
use Rattle.cbt_lex.specs.Words.{word_and_rest}
use Rattle.cbt_lex.proofs.OneLine.{trimmed-one_line, rest-one_line, lines-one_line}
use Rattle.cbt_model.specs.declared.events.Item.{Item}
use Rattle.cbt_model.specs.declared.events.Item.TheVariants as item
use Rattle.cbt_script.specs.declared.cause.Cause.{Cause}
use Rattle.cbt_script.specs.declared.cause.Cause.TheVariants.{NotUtf8, Unended}
use Rattle.cbt_script.specs.declared.cause.ScriptFault.{ScriptFault}
use Rattle.cbt_script.specs.declared.cause.ScriptFault.TheVariants.{Bad}
use Rattle.cbt_script.specs.declared.draft.Draft.{Draft}
use Rattle.cbt_script.specs.declared.keywords.Keyword.{Keyword}
use Rattle.cbt_script.specs.declared.script.Script.{Script}
use Rattle.cbt_script.specs.Clients.{is_inside}
use Rattle.cbt_script.specs.Drafts.{start, script_from}
use Rattle.cbt_script.specs.Keywords.{keyword_of}
use Rattle.cbt_script.specs.Reading.{text_field, is_passed_over, by_keyword, taken, line_step, at_line, read_on, read_lines, script_of}
use Rattle.cbt_script.specs.Rules.{IsWithin, IsStop, IsFault, IsItem, AreDistinct, IsScript, tried_by, tried_in, actor_names}
use Rattle.cbt_script.specs.Settings.{max_time}
use Rattle.cbt_script.proofs.RulesOfFields.{Keeps, keeps-bind, keeps-cond}
use Rattle.cbt_script.proofs.RulesOfSettings.{or-default}
use Rattle.cbt_script.proofs.RulesOfClients.{client_names, all-done, names-done, tried-done, outside}
use Rattle.cbt_script.proofs.RulesOfCourse.{IsStopIn, IsFaultIn, IsItemIn}
use Rattle.cbt_script.proofs.RulesOfDrafts.{IsDraft, names_in, start-kept, keyword-kept}

-- ---- lines

text-kept : (line : List ℕ) → IsOneLine line → Keeps IsOneLine (text_field line)
text-kept line one = keeps-cond IsOneLine (is_utf8 line) (Ok line) (Err NotUtf8) (λ e. one) (λ e. tt)

by_keyword-kept : (keyword : Option Keyword) (d : Draft) (rest : List ℕ) → IsDraft d → IsOneLine rest → Keeps IsDraft (by_keyword keyword d rest)
by_keyword-kept (Some keyword) d rest is one = keyword-kept keyword d rest is one
by_keyword-kept None d rest is one = tt

taken-kept : (d : Draft) (text : List ℕ) → IsDraft d → IsOneLine text → Keeps IsDraft (taken d text)
taken-kept d text is one =
    keeps-cond IsDraft (is_passed_over text) (Ok d) (by_keyword (keyword_of (word_and_rest text).0) d (word_and_rest text).1) (λ e. is)
    (λ e. by_keyword-kept (keyword_of (word_and_rest text).0) d (word_and_rest text).1 is (rest-one_line text one))

step-kept : (d : Draft) (line : List ℕ) → IsDraft d → IsOneLine line → Keeps IsDraft (line_step d line)
unfolding line_step
step-kept d line is one =
    keeps-bind IsOneLine IsDraft (text_field (trimmed line)) _ (text-kept (trimmed line) (trimmed-one_line line one)) (λ text good. taken-kept d text is good)

-- ---- the end

stops-of : (s : Script) (most : ℕ) → most ≡ length (actor_names s) → All (IsStopIn most) s.stops → All (IsStop s) s.stops
stops-of s most is all = subst (λ n. All (IsStopIn n) s.stops) is all

faults-of : (s : Script) (most : ℕ) → most ≡ length (actor_names s) → All (IsFaultIn most) s.faults.fates → All (IsFault s) s.faults.fates
faults-of s most is all =
    All-weaker (IsFaultIn most) (IsFault s) (λ f at. ((subst (λ n. IsWithin 1 n f.0.0) is at.0.0), at.0.1, at.1)) s.faults.fates all

item-of : (s : Script) (most : ℕ) → most ≡ length (actor_names s) → (i : Item) → IsItemIn most i → IsItem s i
item-of s most is (item.Calls actor k) good = (subst (λ n. IsWithin 1 n actor) is good.0, good.1)
item-of s most is (item.All actor) good = subst (λ n. IsWithin 1 n actor) is good
item-of s most is (item.Ahead ms) good = good

from-draft : (d : Draft) → IsDraft d → is_inside d.clients ≡ false → IsScript (script_from d)
from-draft d is out =
    let s = script_from d in
    let c = d.clients in
    let clients = is.clients in
    let names : actor_names s ≡ names_in c d.course = ap (λ xs. xs ++ map (λ x. x.0) d.course.cleaners) (names-done c.last c.txns c.done) in
    let most : length (names_in c d.course) ≡ length (actor_names s) = ap length (sym names) in
    let count : length (map (λ (x : List ℕ × ClientPlan). x.0) s.clients) ≡ length (client_names c) = ap length (names-done c.last c.txns c.done) in
    let mapped : length (map (λ (x : List ℕ × ClientPlan). x.0) s.clients) ≡ length s.clients = length-map s.clients (λ (x : List ℕ × ClientPlan). x.0) in
    let few : length (client_names c) ≤ 64 = clients.few in
    let tried : tried_by s.clients ≡ tried_by c.done + tried_in c.txns = tried-done c.last c.txns c.done clients.last in
    let under : c.tried ≡ tried_by c.done + tried_in c.txns = outside c clients out in
    let tried_few : c.tried ≤ 16384 = clients.tried_few in
    let passes : d.course.passes ≤ 65536 = is.course.passes_few in
    record {
      atrs = or-default 1 1024 16 d.settings.atrs (omega arith, omega arith) is.settings.atrs;
      expiry = or-default 1 max_time 15000 d.settings.expiry (omega arith, omega arith) is.settings.expiry;
      tries = or-default 1 16 8 d.settings.tries (omega arith, omega arith) is.settings.tries;
      lapse = or-default 1 max_time 60000 d.settings.lapse (omega arith, omega arith) is.settings.lapse;
      line = is.settings.line;
      docs = is.documents.docs;
      docs_few = is.documents.few;
      docs_distinct = is.documents.distinct;
      clients = all-done c.last c.txns c.done clients.done clients.last clients.txns clients.txns_few;
      clients_few = omega arith;
      tried = omega arith;
      cleaners = is.course.cleaners;
      cleaners_few = is.course.cleaners_few;
      passes = subst (λ n. n ≤ 65536) is.course.passes passes;
      actors = subst AreDistinct (sym names) is.actors.distinct;
      stops = stops-of s (length (names_in c d.course)) most is.course.stops;
      stops_rise = is.course.stops_rise;
      faults = faults-of s (length (names_in c d.course)) most is.course.faults;
      faults_rise = is.course.faults_rise;
      order = All-weaker (IsItemIn (length (names_in c d.course))) (IsItem s) (item-of s (length (names_in c d.course)) most) d.course.order is.course.order;
      sweep = is.course.sweep;
    }

-- ---- the whole

-- what holds of a script that was read
abbrev Reads : Result Script ScriptFault → Type 0
Reads (Ok s) = IsScript s
Reads (Err fault) = Unit {0}

finished_if : (t : Bool) (n : ℕ) (d : Draft) → is_inside d.clients ≡ t → IsDraft d → Reads (cond t (Err (Bad (record { line = n; why = Unended }))) (Ok (script_from d)))
finished_if true n d at is = tt
finished_if false n d at is = from-draft d is at

on-line : (n : ℕ) (r : Result Draft Cause) (next : Draft → Result Script ScriptFault) → Keeps IsDraft r → ((e : Draft) → IsDraft e → Reads (next e)) → Reads (read_on next (at_line n r))
on-line n (Ok e) next is then = then e is
on-line n (Err why) next is then = tt

lines-kept : (lines : List (List ℕ)) (n : ℕ) (d : Draft) → All IsOneLine lines → IsDraft d → Reads (read_lines n d lines)
lines-kept [] n d all is = finished_if (is_inside d.clients) n d refl is
lines-kept (line ∷ lines) n d all is =
    on-line n (line_step d line) (λ e. read_lines (n + 1) e lines) (step-kept d line is (All-head IsOneLine line lines all))
    (λ e good. lines-kept lines (n + 1) e (All-tail IsOneLine line lines all) good)

whole-kept : (bytes : List ℕ) → Reads (script_of bytes)
unfolding script_of
whole-kept bytes = lines-kept (lines_of bytes) 1 start (lines-one_line bytes) start-kept

-- what reads as a script keeps the rules
pub read_keeps_rules : (bytes : List ℕ) (s : Script) → script_of bytes ≡ Ok s → IsScript s
read_keeps_rules bytes s is = subst Reads is (whole-kept bytes)
