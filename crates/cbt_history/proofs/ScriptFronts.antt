-- Each run of lines that the canonical text of a script begins with goes on.
use Rattle.std.proofs.Common.{◌≡◌, ℕ, ◌*◌, ◌≤◌, false, cond, List, [], ◌∷◌, ◌++◌, length, codes, decimal, Option, Some, None, refl, sym, ap, ap₂, ◌∙◌, subst, arith, append_assoc}
use Rattle.std.specs.List.{All}
use Rattle.std.specs.List.Sorted.{IsStrictlySortedBy}
use Rattle.std.specs.Map.{keys_of}
use Rattle.std.specs.Ordering.{nat_cmp}
use Rattle.std.proofs.Math.Nat.{mul-le-mul_right}
use Rattle.std.proofs.lemmas.Fmt.{decimal_digit}
use Rattle.std.proofs.lemmas.List.{append-nil}
use Rattle.std.proofs.lemmas.List.Elements.{All-nil}
use Rattle.cbt_model.specs.Faults.{call_cmp}
use Rattle.cbt_model.specs.declared.events.Fate.{Fate}
use Rattle.cbt_model.specs.declared.events.Fate.TheVariants.{Lost, Late}
use Rattle.cbt_model.specs.declared.events.Item.{Item}
use Rattle.cbt_model.specs.declared.events.Item.TheVariants as item
use Rattle.cbt_script.specs.declared.script.Script.{Script}
use Rattle.cbt_script.specs.Printed.{labelled, clock_lines, settings_lines, doc_lines, client_lines, cleaner_lines, fault_line, stop_lines, is_fate, fate_word, fault_lines, item_text, items_text, order_lines, sweep_lines, script_lines}
use Rattle.cbt_script.specs.Rules.{IsWithin, AreDistinct, IsDocument, IsClient, IsCleaner, IsStop, IsFault, IsItem, IsLine, IsScript, tried_by, rounds_of}
use Rattle.cbt_script.specs.Settings.{max_time}
use Rattle.cbt_script.proofs.RunBack.{distinct_front}
use Rattle.cbt_history.proofs.ClientFronts.{Client, client_names, ClientsCut, clients_cut, ending}
use Rattle.cbt_history.proofs.Closings.{IsClosing, closes_ending, lapse_line, tries_line, expiry_line, atrs_line, closes_lapse, closes_tries, closes_expiry, closes_atrs}
use Rattle.cbt_history.proofs.CourseFronts.{Cleaner, cleaner_names, CleanersCut, cleaners_cut, StopsCut, stops_cut, Fates, FatesCut, LostCut, LateCut, lost_cut, late_cut}
use Rattle.cbt_history.proofs.DocumentFronts.{Doc, doc_ids, DocsCut, docs_cut}
use Rattle.cbt_history.proofs.Fronts.{Lines, Fronts, weaker, both}

-- lines that are, closed, those of a script which keeps the rules
pub record IsFront (front : Lines) : Type 0 where
  pub script : Script
  pub is : IsScript script
  pub closing : Lines
  pub closes : IsClosing closing
  pub lines : script_lines script ≡ front ++ closing

-- lines that need no closing
whole : (front : Lines) (s : Script) → IsScript s → script_lines s ≡ front → IsFront front
whole front s is same = record { script = s; is = is; closing = []; closes = closes_ending false; lines = same ∙ sym (append-nil front) }

-- ---- the groups of a script that has nothing in the later ones

none_2 : (x : Lines) → x ++ [] ++ [] ≡ x
none_2 x = append-nil (x ++ []) ∙ append-nil x

none_4 : (x : Lines) → x ++ [] ++ [] ++ [] ++ [] ≡ x
none_4 x = none_2 (x ++ [] ++ []) ∙ none_2 x

none_6 : (x : Lines) → x ++ [] ++ [] ++ [] ++ [] ++ [] ++ [] ≡ x
none_6 x = none_2 (x ++ [] ++ [] ++ [] ++ []) ∙ none_4 x

-- ---- scripts with settings, documents and clients alone

module _ (atrs expiry tries lapse : ℕ) (line : Option (ℕ × ℕ)) (docs : List Doc) (clients : List Client) where
  abbrev idle : Script
  idle = record {
    atrs = atrs;
    expiry = expiry;
    tries = tries;
    lapse = lapse;
    line = line;
    docs = docs;
    clients = clients;
    cleaners = [];
    stops = [];
    faults = record { fates = [] };
    order = [];
    sweep = None;
  }

  record AreSettings : Type 0 where
    pub atrs_in : IsWithin 1 1024 atrs
    pub expiry_in : IsWithin 1 max_time expiry
    pub tries_in : IsWithin 1 16 tries
    pub lapse_in : IsWithin 1 max_time lapse
    pub line_in : IsLine line

  record AreDocs : Type 0 where
    pub each : All IsDocument docs
    pub few : length docs ≤ 65536
    pub distinct : AreDistinct (doc_ids docs)

  record AreClients : Type 0 where
    pub each : All IsClient clients
    pub few : length clients ≤ 64
    pub tried : tried_by clients ≤ 16384
    pub distinct : AreDistinct (client_names clients)

  idle_is : AreSettings → AreDocs → AreClients → IsScript idle
  unfolding IsStrictlySortedBy
  idle_is settings are_docs are_clients = record {
    atrs = settings.atrs_in;
    expiry = settings.expiry_in;
    tries = settings.tries_in;
    lapse = settings.lapse_in;
    line = settings.line_in;
    docs = are_docs.each;
    docs_few = are_docs.few;
    docs_distinct = are_docs.distinct;
    clients = are_clients.each;
    clients_few = are_clients.few;
    tried = are_clients.tried;
    cleaners = All-nil IsCleaner;
    cleaners_few = omega arith;
    passes = omega arith;
    actors = subst AreDistinct (sym (append-nil (client_names clients))) are_clients.distinct;
    stops = All-nil (IsStop idle);
    stops_rise = tt;
    faults = All-nil (IsFault idle);
    faults_rise = tt;
    order = All-nil (IsItem idle);
    sweep = tt;
  }

-- ---- lines that name actors

module _ (s : Script) (stops : List (ℕ × ℕ)) (fates : Fates s) (order : List Item) (sweep : Option ℕ) where
  -- the script with another course
  abbrev other : Script
  other = record s { stops = stops; faults = record { fates = fates }; order = order; sweep = sweep }

  same_stops : (xs : List (ℕ × ℕ)) → stop_lines other xs ≡ stop_lines s xs
  same_stops [] = refl
  same_stops (stop ∷ xs) = ap (λ ls. fault_line (codes "stop ") s stop.0 stop.1 ∷ ls) (same_stops xs)

  same_fates : (wanted : Fate) (xs : Fates s) → fault_lines wanted other xs ≡ fault_lines wanted s xs
  same_fates wanted [] = refl
  same_fates wanted (fault ∷ xs) = ap (λ ls. cond (is_fate fault.1 wanted) (fault_line (fate_word wanted) s fault.0.0 fault.0.1 ∷ ls) ls) (same_fates wanted xs)

  same_item : (i : Item) → item_text other i ≡ item_text s i
  same_item (item.Calls actor k) = refl
  same_item (item.All actor) = refl
  same_item (item.Ahead ms) = refl

  same_items : (xs : List Item) → items_text other xs ≡ items_text s xs
  same_items [] = refl
  same_items (i ∷ xs) = ap₂ (λ x y. codes " " ++ x ++ y) (same_item i) (same_items xs)

  same_order : (xs : List Item) → order_lines other xs ≡ order_lines s xs
  same_order [] = refl
  same_order (i ∷ xs) = ap (λ text. (codes "order" ++ text) ∷ []) (same_items (i ∷ xs))

  -- the other course follows the rules
  record IsCourse : Type 0 where
    pub each_stop : All (IsStop s) stops
    pub stops_up : IsStrictlySortedBy nat_cmp (keys_of stops)
    pub each_fault : All (IsFault s) fates
    pub fates_up : IsStrictlySortedBy call_cmp (keys_of fates)
    pub each_item : All (IsItem s) order

-- ---- the whole

module _ (s : Script) (is : IsScript s) where
  one_within : (most : ℕ) → 1 ≤ most → IsWithin 1 most 1
  one_within most some = (omega arith, some)

  -- ---- settings

  abbrev fewer : ℕ → ℕ → ℕ → ℕ → Option (ℕ × ℕ) → Script
  fewer atrs expiry tries lapse line = idle atrs expiry tries lapse line [] []

  fewer_is : (atrs expiry tries lapse : ℕ) (line : Option (ℕ × ℕ)) → IsWithin 1 1024 atrs → IsWithin 1 max_time expiry → IsWithin 1 16 tries → IsWithin 1 max_time lapse → IsLine line
      → IsScript (fewer atrs expiry tries lapse line)
  fewer_is atrs expiry tries lapse line a e t l c =
      idle_is atrs expiry tries lapse line [] [] (record { atrs_in = a; expiry_in = e; tries_in = t; lapse_in = l; line_in = c })
      (record { each = All-nil IsDocument; few = omega arith; distinct = tt }) (record { each = All-nil IsClient; few = omega arith; tried = omega arith; distinct = tt })

  one : decimal 1 ≡ 49 ∷ []
  one = decimal_digit 1 (omega arith)

  abbrev atrs_said : List ℕ
  atrs_said = labelled (codes "atrs ") s.atrs

  abbrev expiry_said : List ℕ
  expiry_said = labelled (codes "expiry ") s.expiry

  abbrev tries_said : List ℕ
  tries_said = labelled (codes "tries ") s.tries

  abbrev lapse_said : List ℕ
  lapse_said = labelled (codes "lapse ") s.lapse

  settings_0 : IsFront []
  settings_0 = record {
    script = fewer 1 1 1 1 None;
    is = fewer_is 1 1 1 1 None (one_within 1024 (omega arith)) (one_within max_time (omega arith)) (one_within 16 (omega arith)) (one_within max_time (omega arith)) tt;
    closing = atrs_line ∷ expiry_line ∷ tries_line ∷ lapse_line ∷ [];
    closes = closes_atrs;
    lines = ap (λ d. (codes "atrs " ++ d) ∷ (codes "expiry " ++ d) ∷ (codes "tries " ++ d) ∷ (codes "lapse " ++ d) ∷ []) one;
  }

  settings_1 : IsFront (atrs_said ∷ [])
  settings_1 = record {
    script = fewer s.atrs 1 1 1 None;
    is = fewer_is s.atrs 1 1 1 None is.atrs (one_within max_time (omega arith)) (one_within 16 (omega arith)) (one_within max_time (omega arith)) tt;
    closing = expiry_line ∷ tries_line ∷ lapse_line ∷ [];
    closes = closes_expiry;
    lines = ap (λ d. atrs_said ∷ (codes "expiry " ++ d) ∷ (codes "tries " ++ d) ∷ (codes "lapse " ++ d) ∷ []) one;
  }

  settings_2 : IsFront (atrs_said ∷ expiry_said ∷ [])
  settings_2 = record {
    script = fewer s.atrs s.expiry 1 1 None;
    is = fewer_is s.atrs s.expiry 1 1 None is.atrs is.expiry (one_within 16 (omega arith)) (one_within max_time (omega arith)) tt;
    closing = tries_line ∷ lapse_line ∷ [];
    closes = closes_tries;
    lines = ap (λ d. atrs_said ∷ expiry_said ∷ (codes "tries " ++ d) ∷ (codes "lapse " ++ d) ∷ []) one;
  }

  settings_3 : IsFront (atrs_said ∷ expiry_said ∷ tries_said ∷ [])
  settings_3 = record {
    script = fewer s.atrs s.expiry s.tries 1 None;
    is = fewer_is s.atrs s.expiry s.tries 1 None is.atrs is.expiry is.tries (one_within max_time (omega arith)) tt;
    closing = lapse_line ∷ [];
    closes = closes_lapse;
    lines = ap (λ d. atrs_said ∷ expiry_said ∷ tries_said ∷ (codes "lapse " ++ d) ∷ []) one;
  }

  settings_4 : IsFront (atrs_said ∷ expiry_said ∷ tries_said ∷ lapse_said ∷ [])
  settings_4 =
      whole (atrs_said ∷ expiry_said ∷ tries_said ∷ lapse_said ∷ []) (fewer s.atrs s.expiry s.tries s.lapse None)
      (fewer_is s.atrs s.expiry s.tries s.lapse None is.atrs is.expiry is.tries is.lapse tt) refl

  clock_cut : (line : Option (ℕ × ℕ)) → Fronts (λ l. IsFront (atrs_said ∷ expiry_said ∷ tries_said ∷ lapse_said ∷ l)) (clock_lines line)
  clock_cut None = tt
  clock_cut (Some line) = (settings_4, tt)

  settings_cut : Fronts IsFront (settings_lines s)
  settings_cut = (settings_0, (settings_1, (settings_2, (settings_3, clock_cut s.line))))

  -- ---- documents and clients

  abbrev settings : Lines
  settings = settings_lines s

  are_settings : (docs : List Doc) (clients : List Client) → AreSettings s.atrs s.expiry s.tries s.lapse s.line docs clients
  are_settings docs clients = record { atrs_in = is.atrs; expiry_in = is.expiry; tries_in = is.tries; lapse_in = is.lapse; line_in = is.line }

  docs_front : (l : Lines) → DocsCut s.docs l → IsFront (settings ++ l)
  docs_front l c =
      let few : length c.docs ≤ length s.docs = c.few in
      let most : length s.docs ≤ 65536 = is.docs_few in
      whole (settings ++ l) (idle s.atrs s.expiry s.tries s.lapse s.line c.docs [])
      (idle_is s.atrs s.expiry s.tries s.lapse s.line c.docs [] (are_settings c.docs [])
      (record { each = c.are; few = omega arith; distinct = distinct_front (doc_ids c.docs) c.others (subst AreDistinct c.ids is.docs_distinct) })
      (record { each = All-nil IsClient; few = omega arith; tried = omega arith; distinct = tt }))
      (none_6 (settings ++ doc_lines c.docs ++ []) ∙ append-nil (settings ++ doc_lines c.docs) ∙ ap (λ ls. settings ++ ls) c.lines)

  abbrev to_docs : Lines
  to_docs = settings ++ doc_lines s.docs

  client_names_apart : AreDistinct (client_names s.clients)
  client_names_apart = distinct_front (client_names s.clients) (cleaner_names s.cleaners) is.actors

  clients_front : (l : Lines) → ClientsCut s.clients l → IsFront (to_docs ++ l)
  clients_front l c =
      let few : length c.clients ≤ length s.clients = c.few in
      let most : length s.clients ≤ 64 = is.clients_few in
      let tried : tried_by c.clients ≤ tried_by s.clients = c.tried in
      let sum : tried_by s.clients ≤ 16384 = is.tried in
      record {
        script = idle s.atrs s.expiry s.tries s.lapse s.line s.docs c.clients;
        is = idle_is s.atrs s.expiry s.tries s.lapse s.line s.docs c.clients (are_settings s.docs c.clients) (record { each = is.docs; few = is.docs_few; distinct = is.docs_distinct })
            (record { each = c.are; few = omega arith; tried = omega arith; distinct = distinct_front (client_names c.clients) c.others (subst AreDistinct c.names client_names_apart) });
        closing = ending c.inside;
        closes = closes_ending c.inside;
        lines = none_6 (to_docs ++ client_lines c.clients) ∙ ap (λ ls. to_docs ++ ls) c.lines ∙ sym (append_assoc to_docs l (ending c.inside));
      }

  -- ---- cleaners

  abbrev to_clients : Lines
  to_clients = to_docs ++ client_lines s.clients

  abbrev resting : List Cleaner → Script
  resting cleaners = record s { cleaners = cleaners; stops = []; faults = record { fates = [] }; order = []; sweep = None }

  resting_is : (l : Lines) (c : CleanersCut s.cleaners l) → IsScript (resting c.cleaners)
  unfolding IsStrictlySortedBy
  resting_is l c =
      let few : length c.cleaners ≤ length s.cleaners = c.few in
      let most : length s.cleaners ≤ 16 = is.cleaners_few in
      let less : rounds_of c.cleaners * s.atrs ≤ rounds_of s.cleaners * s.atrs = mul-le-mul_right s.atrs c.rounds in
      let sum : rounds_of s.cleaners * s.atrs ≤ 65536 = is.passes in
      let names = client_names s.clients in
      let here = cleaner_names c.cleaners in
      record {
        atrs = is.atrs;
        expiry = is.expiry;
        tries = is.tries;
        lapse = is.lapse;
        line = is.line;
        docs = is.docs;
        docs_few = is.docs_few;
        docs_distinct = is.docs_distinct;
        clients = is.clients;
        clients_few = is.clients_few;
        tried = is.tried;
        cleaners = c.are;
        cleaners_few = omega arith;
        passes = omega arith;
        actors = distinct_front (names ++ here) c.others (subst AreDistinct (ap (λ ls. names ++ ls) c.names ∙ sym (append_assoc names here c.others)) is.actors);
        stops = All-nil (IsStop (resting c.cleaners));
        stops_rise = tt;
        faults = All-nil (IsFault (resting c.cleaners));
        faults_rise = tt;
        order = All-nil (IsItem (resting c.cleaners));
        sweep = tt;
      }

  cleaners_front : (l : Lines) → CleanersCut s.cleaners l → IsFront (to_clients ++ l)
  cleaners_front l c =
      whole (to_clients ++ l) (resting c.cleaners) (resting_is l c)
      (append-nil (to_clients ++ cleaner_lines c.cleaners ++ [] ++ [] ++ [] ++ []) ∙ none_4 (to_clients ++ cleaner_lines c.cleaners) ∙ ap (λ ls. to_clients ++ ls) c.lines)

  -- ---- the course

  abbrev to_cleaners : Lines
  to_cleaners = to_clients ++ cleaner_lines s.cleaners

  module _ (stops : List (ℕ × ℕ)) (fates : Fates s) (order : List Item) where
    abbrev going : Script
    going = other s stops fates order None

    going_is : IsCourse s stops fates order None → IsScript going
    going_is course = record {
      atrs = is.atrs;
      expiry = is.expiry;
      tries = is.tries;
      lapse = is.lapse;
      line = is.line;
      docs = is.docs;
      docs_few = is.docs_few;
      docs_distinct = is.docs_distinct;
      clients = is.clients;
      clients_few = is.clients_few;
      tried = is.tried;
      cleaners = is.cleaners;
      cleaners_few = is.cleaners_few;
      passes = is.passes;
      actors = is.actors;
      stops = course.each_stop;
      stops_rise = course.stops_up;
      faults = course.each_fault;
      faults_rise = course.fates_up;
      order = course.each_item;
      sweep = tt;
    }

    -- its lines, as those that the script itself has for them
    going_lines : script_lines going ≡ to_cleaners ++ stop_lines s stops ++ fault_lines Lost s fates ++ fault_lines Late s fates ++ order_lines s order
    going_lines =
        append-nil (to_cleaners ++ stop_lines going stops ++ fault_lines Lost going fates ++ fault_lines Late going fates ++ order_lines going order)
        ∙ ap₂ (λ x y. to_cleaners ++ x ++ y ++ fault_lines Late going fates ++ order_lines going order) (same_stops s stops fates order None stops) (same_fates s stops fates order None Lost fates)
        ∙ ap₂ (λ x y. to_cleaners ++ stop_lines s stops ++ fault_lines Lost s fates ++ x ++ y) (same_fates s stops fates order None Late fates) (same_order s stops fates order None order)

    -- a run that ends in its lines
    going_front : (front : Lines) → IsCourse s stops fates order None → to_cleaners ++ stop_lines s stops ++ fault_lines Lost s fates ++ fault_lines Late s fates ++ order_lines s order ≡ front
        → IsFront front
    going_front front course same = whole front going (going_is course) (going_lines ∙ same)

  stops_front : (l : Lines) → StopsCut s s.stops l → IsFront (to_cleaners ++ l)
  unfolding IsStrictlySortedBy
  stops_front l c =
      going_front c.stops [] [] (to_cleaners ++ l)
      (record { each_stop = c.are; stops_up = c.rise; each_fault = All-nil (IsFault s); fates_up = tt; each_item = All-nil (IsItem s) })
      (append-nil (to_cleaners ++ stop_lines s c.stops ++ [] ++ []) ∙ none_2 (to_cleaners ++ stop_lines s c.stops) ∙ ap (λ ls. to_cleaners ++ ls) c.lines)

  abbrev to_stops : Lines
  to_stops = to_cleaners ++ stop_lines s s.stops

  fates_course : (all : Fates s) (lost late : Lines) (c : FatesCut s all lost late) → IsCourse s s.stops c.fates [] None
  fates_course all lost late c = record { each_stop = is.stops; stops_up = is.stops_rise; each_fault = c.are; fates_up = c.rise; each_item = All-nil (IsItem s) }

  lost_front : (l : Lines) → LostCut s s.faults.fates l → IsFront (to_stops ++ l)
  lost_front l c =
      going_front s.stops c.fates [] (to_stops ++ l) (fates_course s.faults.fates l [] c)
      (append-nil (to_stops ++ fault_lines Lost s c.fates ++ fault_lines Late s c.fates) ∙ ap₂ (λ x y. to_stops ++ x ++ y) c.lost_lines c.late_lines ∙ append-nil (to_stops ++ l))

  abbrev to_lost : Lines
  to_lost = to_stops ++ fault_lines Lost s s.faults.fates

  late_front : (l : Lines) → LateCut s s.faults.fates l → IsFront (to_lost ++ l)
  late_front l c =
      going_front s.stops c.fates [] (to_lost ++ l) (fates_course s.faults.fates (fault_lines Lost s s.faults.fates) l c)
      (append-nil (to_stops ++ fault_lines Lost s c.fates ++ fault_lines Late s c.fates) ∙ ap₂ (λ x y. to_stops ++ x ++ y) c.lost_lines c.late_lines)

  abbrev to_late : Lines
  to_late = to_lost ++ fault_lines Late s s.faults.fates

  abbrev the_course : (order : List Item) → All (IsItem s) order → IsCourse s s.stops s.faults.fates order None
  the_course order each = record { each_stop = is.stops; stops_up = is.stops_rise; each_fault = is.faults; fates_up = is.faults_rise; each_item = each }

  order_cut : (order : List Item) → Fronts (λ l. IsFront (to_late ++ l)) (order_lines s order)
  order_cut [] = tt
  order_cut (i ∷ order) = (going_front s.stops s.faults.fates [] (to_late ++ []) (the_course [] (All-nil (IsItem s))) refl, tt)

  abbrev to_order : Lines
  to_order = to_late ++ order_lines s s.order

  sweep_cut : (sweep : Option ℕ) → Fronts (λ l. IsFront (to_order ++ l)) (sweep_lines sweep)
  sweep_cut None = tt
  sweep_cut (Some ms) = (going_front s.stops s.faults.fates s.order (to_order ++ []) (the_course s.order is.order) (sym (append-nil to_order)), tt)

  -- ---- all groups

  docs_fronts : Fronts IsFront to_docs
  docs_fronts = both IsFront settings (doc_lines s.docs) settings_cut (weaker (DocsCut s.docs) (λ l. IsFront (settings ++ l)) (doc_lines s.docs) docs_front (docs_cut s.docs is.docs))

  cleaners_fronts : Fronts IsFront to_cleaners
  cleaners_fronts =
      both IsFront to_clients (cleaner_lines s.cleaners)
      (both IsFront to_docs (client_lines s.clients) docs_fronts (weaker (ClientsCut s.clients) (λ l. IsFront (to_docs ++ l)) (client_lines s.clients) clients_front (clients_cut s.clients is.clients)))
      (weaker (CleanersCut s.cleaners) (λ l. IsFront (to_clients ++ l)) (cleaner_lines s.cleaners) cleaners_front (cleaners_cut s.cleaners is.cleaners))

  late_fronts : Fronts IsFront to_late
  late_fronts =
      let fates = s.faults.fates in
      both IsFront to_lost (fault_lines Late s fates)
      (both IsFront to_stops (fault_lines Lost s fates)
      (both IsFront to_cleaners (stop_lines s s.stops) cleaners_fronts
      (weaker (StopsCut s s.stops) (λ l. IsFront (to_cleaners ++ l)) (stop_lines s s.stops) stops_front (stops_cut s s.stops is.stops is.stops_rise)))
      (weaker (LostCut s fates) (λ l. IsFront (to_stops ++ l)) (fault_lines Lost s fates) lost_front (lost_cut s fates is.faults is.faults_rise)))
      (weaker (LateCut s fates) (λ l. IsFront (to_lost ++ l)) (fault_lines Late s fates) late_front (late_cut s fates is.faults is.faults_rise))

  pub fronts : Fronts IsFront (script_lines s)
  fronts = both IsFront to_order (sweep_lines s.sweep) (both IsFront to_late (order_lines s s.order) late_fronts (order_cut s.order)) (sweep_cut s.sweep)

  pub all_lines : IsFront (script_lines s)
  all_lines = whole (script_lines s) s is refl
