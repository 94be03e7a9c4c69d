-- The canonical text of a script that keeps the rules is read as it.
use Rattle.std.proofs.Common.{◌≡◌, ℕ, ◌+◌, ◌*◌, ◌≤◌, false, List, [], ◌∷◌, ◌++◌, length, map, Option, None, Ok, IsUtf8, refl, sym, ap, ap₂, ◌∙◌, subst, arith, append_assoc}
use Rattle.std.specs.List.{AllByRecursion}
use Rattle.cbt_expr.specs.declared.plans.TxnPlan.{TxnPlan}
use Rattle.cbt_lex.proofs.LinesBack.{trimmed_is, IsPrinted, lines_of-lined, lines_utf8}
use Rattle.cbt_model.specs.declared.events.Fate.TheVariants.{Lost, Late}
use Rattle.cbt_model.specs.declared.events.Faults.{Faults}
use Rattle.cbt_model.specs.declared.events.Item.{Item}
use Rattle.cbt_script.specs.declared.documents.Documents.{Documents}
use Rattle.cbt_script.specs.declared.draft.Draft.{Draft}
use Rattle.cbt_script.specs.declared.draft.Group.{Group}
use Rattle.cbt_script.specs.declared.draft.Group.TheVariants as group
use Rattle.cbt_script.specs.declared.script.Script.{Script}
use Rattle.cbt_script.specs.declared.course.Course.{Course}
use Rattle.cbt_script.specs.Clients.{last_done, is_inside}
use Rattle.cbt_script.specs.Course.{Actors, no_course}
use Rattle.cbt_script.specs.Operations.{Bound}
use Rattle.cbt_script.specs.Drafts.{start, group_number, script_from}
use Rattle.cbt_script.specs.Printed.{settings_lines, doc_lines, client_lines, cleaner_lines, stop_lines, fault_lines, order_lines, sweep_lines, script_lines, script_text}
use Rattle.cbt_script.specs.Reading.{read_lines, script_of}
use Rattle.cbt_script.specs.Rules.{IsScript, rounds_of, tried_by}
use Rattle.cbt_script.proofs.ActorsBack.{actors_after, none_at_first, none_after}
use Rattle.cbt_script.proofs.CourseBack.{Reaches, reach_more, run, cleaners_back, stops_back}
use Rattle.cbt_script.proofs.DocumentsBack.{DocsRead, with_documents, docs_back, none_at_start}
use Rattle.cbt_script.proofs.Drafted.{drafted, drafted_both, IsReady, read_drafted}
use Rattle.cbt_script.proofs.FaultsBack.{faults_back}
use Rattle.cbt_script.proofs.OperationsBack.{Client}
use Rattle.cbt_script.proofs.PlansBack.{ClientsRead, outer, clients_back}
use Rattle.cbt_script.proofs.PrintedBack.{lines_printed}
use Rattle.cbt_script.proofs.RunBack.{names_fine, numbers_fine, the_actors, distinct_front, distinct_back, order_lines_back, sweep_lines_back}
use Rattle.cbt_script.proofs.SettingsBack.{all_settings, with_settings, settings_back}

all_ready : (lines : List (List ℕ)) → AllByRecursion IsPrinted lines → AllByRecursion IsUtf8 lines → AllByRecursion IsReady lines
all_ready [] printed utf8 = tt
all_ready (line ∷ lines) printed utf8 = ((utf8.0, trimmed_is line printed.0.0 printed.0.1), all_ready lines printed.1 utf8.1)

-- lines that say a script, with no transaction left under way
record Says (s : Script) : Type 0 where
  pub draft : Draft
  pub reads : drafted start (script_lines s) ≡ Ok draft
  pub outside : is_inside draft.clients ≡ false
  pub whole : script_from draft ≡ s

module _ (s : Script) (is : IsScript s) where
  abbrev client_names : List (List ℕ)
  client_names = map (λ (c : Client). c.0) s.clients

  abbrev cleaner_names : List (List ℕ)
  cleaner_names = map (λ (c : List ℕ × ℕ). c.0) s.cleaners

  abbrev passes : ℕ
  passes = 0 + rounds_of s.cleaners * s.atrs

  -- the lines behind those of the clients
  module _ (ds : Documents) (done : List Client) (last : Option (List ℕ)) (txns : List TxnPlan) (bound : Bound) (tried : ℕ) where
    abbrev to : Actors → Course → Group → Draft
    to actors c g = run s ds done last txns bound tried g actors c

    abbrev actors : Actors
    actors = the_actors s is

    abbrev course : List (ℕ × ℕ) → Faults → List Item → Option ℕ → Course
    course stops faults order sweep = record { cleaners = s.cleaners; passes = passes; stops = stops; faults = faults; order = order; sweep = sweep }

    abbrev no_faults : Faults
    no_faults = record { fates = [] }

    cleaners_reach : (g : Group) → group_number g ≤ 2 → Reaches 3 (to (actors_after client_names []) no_course g) (cleaner_lines s.cleaners) (to actors (course [] no_faults [] None))
    cleaners_reach g low =
        let few : length s.cleaners ≤ 16 = is.cleaners_few in
        let room : rounds_of s.cleaners * s.atrs ≤ 65536 = is.passes in
        cleaners_back s ds done last txns bound tried g (actors_after client_names []) [] s.cleaners 0 (omega arith) is.cleaners (distinct_back client_names cleaner_names is.actors)
        (none_after client_names cleaner_names [] is.actors (none_at_first (client_names ++ cleaner_names))) (omega arith) (omega arith)

    stops_reach : (g : Group) → group_number g ≤ 3 → Reaches 4 (to actors (course [] no_faults [] None) g) (stop_lines s s.stops) (to actors (course s.stops no_faults [] None))
    stops_reach g low = stops_back s ds done last txns bound tried actors (names_fine s is) (numbers_fine s is) s.cleaners passes g [] s.stops (omega arith) is.stops is.stops_rise

    faults_reach : (g : Group) → group_number g ≤ 4
        → Reaches 4 (to actors (course s.stops no_faults [] None) g) (fault_lines Lost s s.faults.fates ++ fault_lines Late s s.faults.fates) (to actors (course s.stops s.faults [] None))
    faults_reach = faults_back s ds done last txns bound tried actors (names_fine s is) (numbers_fine s is) s.cleaners passes s.stops s.faults.fates is.faults is.faults_rise

    order_reach : (g : Group) → group_number g ≤ 4 → Reaches 5 (to actors (course s.stops s.faults [] None) g) (order_lines s s.order) (to actors (course s.stops s.faults s.order None))
    order_reach g low = order_lines_back s ds done last txns bound tried actors (names_fine s is) (numbers_fine s is) g (omega arith) (course s.stops s.faults [] None) s.order is.order

    sweep_reach : (g : Group) → group_number g ≤ 5 → Reaches 6 (to actors (course s.stops s.faults s.order None) g) (sweep_lines s.sweep) (to actors (course s.stops s.faults s.order s.sweep))
    sweep_reach g low = sweep_lines_back s ds done last txns bound tried actors (names_fine s is) (numbers_fine s is) g (omega arith) (course s.stops s.faults s.order None) s.sweep is.sweep

    abbrev with_stops : List (List ℕ) → List (List ℕ)
    with_stops front = front ++ cleaner_lines s.cleaners ++ stop_lines s s.stops

    abbrev with_order : List (List ℕ) → List (List ℕ)
    with_order front = front ++ fault_lines Lost s s.faults.fates ++ fault_lines Late s s.faults.fates ++ order_lines s s.order

    stops_first : (front : List (List ℕ)) → Reaches 2 start front (to (actors_after client_names []) no_course) → Reaches 4 start (with_stops front) (to actors (course s.stops no_faults [] None))
    stops_first front first =
        reach_more 3 4 (front ++ cleaner_lines s.cleaners) (stop_lines s s.stops) (to actors (course [] no_faults [] None)) (to actors (course s.stops no_faults [] None))
        (reach_more 2 3 front (cleaner_lines s.cleaners) (to (actors_after client_names []) no_course) (to actors (course [] no_faults [] None)) first cleaners_reach) stops_reach

    order_next : (front : List (List ℕ)) → Reaches 4 start front (to actors (course s.stops no_faults [] None)) → Reaches 5 start (with_order front) (to actors (course s.stops s.faults s.order None))
    order_next front first =
        let lost = fault_lines Lost s s.faults.fates in
        let late = fault_lines Late s s.faults.fates in
        let faults = to actors (course s.stops s.faults [] None) in
        reach_more 4 5 (front ++ lost ++ late) (order_lines s s.order) faults (to actors (course s.stops s.faults s.order None))
        (subst (λ lines. Reaches 4 start lines faults) (sym (append_assoc front lost late))
        (reach_more 4 4 front (lost ++ late) (to actors (course s.stops no_faults [] None)) faults first faults_reach)) order_reach

    course_last : (front : List (List ℕ)) → Reaches 2 start front (to (actors_after client_names []) no_course)
        → Reaches 6 start (with_order (with_stops front) ++ sweep_lines s.sweep) (to actors (course s.stops s.faults s.order s.sweep))
    course_last front first =
        reach_more 5 6 (with_order (with_stops front)) (sweep_lines s.sweep) (to actors (course s.stops s.faults s.order None)) (to actors (course s.stops s.faults s.order s.sweep))
        (order_next (with_stops front) (stops_first front first)) sweep_reach

    -- the lines of a script, where those of its documents and clients lead here
    all_says : last_done last txns done ≡ s.clients → ds.docs ≡ s.docs → Reaches 2 start (settings_lines s ++ doc_lines s.docs ++ client_lines s.clients) (to (actors_after client_names []) no_course) → Says s
    all_says clients docs first =
        let end = course_last (settings_lines s ++ doc_lines s.docs ++ client_lines s.clients) first in
        record {
          draft = to actors (course s.stops s.faults s.order s.sweep) end.last;
          reads = end.reads;
          outside = refl;
          whole = ap₂ (λ x y. record s { clients = x; docs = y }) clients docs;
        }

  abbrev DocumentsRead : Type 0
  DocumentsRead = DocsRead (all_settings s) group.Settings [] s.docs [] false

  abbrev read_documents : DocumentsRead → Documents
  read_documents d = record { docs = s.docs; ids = d.last_ids; follows = d.last_follows }

  clients_say : (d : DocumentsRead) → ClientsRead (all_settings s) (read_documents d) d.last [] [] None [] [] 0 s.clients → Says s
  clients_say d c =
      let st = all_settings s in
      let here = with_settings st in
      let docs_end = with_documents st d.last s.docs d.last_ids d.last_follows in
      let clients_end = outer st (read_documents d) c.end_group (actors_after client_names []) c.end_done c.end_last c.end_txns c.end_bound c.end_tried in
      all_says (read_documents d) c.end_done c.end_last c.end_txns c.end_bound c.end_tried c.whole refl (record {
        last = c.end_group;
        low = c.low;
        reads = drafted_both start docs_end clients_end (settings_lines s ++ doc_lines s.docs) (client_lines s.clients)
            (drafted_both start here docs_end (settings_lines s) (doc_lines s.docs) (settings_back s is) d.reads) c.reads;
      })

  documents_say : DocumentsRead → Says s
  documents_say d =
      let low : group_number d.last ≤ 1 = d.low in
      let few : length s.clients ≤ 64 = is.clients_few in
      let tried : tried_by s.clients ≤ 16384 = is.tried in
      clients_say d
      (clients_back (all_settings s) (read_documents d) d.last [] [] None [] [] 0 s.clients (omega arith) is.clients (distinct_front client_names cleaner_names is.actors) (none_at_first client_names) (omega arith) (omega arith))

  says : Says s
  says =
      let few : length s.docs ≤ 65536 = is.docs_few in
      documents_say (docs_back (all_settings s) group.Settings [] s.docs [] false (omega arith) is.docs is.docs_distinct (none_at_start s.docs) (omega arith))

  pub reads_again : IsUtf8 (script_text s) → script_of (script_text s) ≡ Ok s
  unfolding script_text script_of
  reads_again utf8 =
      let lines = script_lines s in
      let printed = lines_printed s is in
      let said = says in
      ap (read_lines 1 start) (lines_of-lined lines printed)
      ∙ read_drafted 1 start said.draft lines (all_ready lines printed (lines_utf8 lines utf8)) said.reads said.outside ∙ ap Ok said.whole
