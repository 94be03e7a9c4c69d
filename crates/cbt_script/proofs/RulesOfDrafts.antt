-- A draft keeps the rules, whatever line is read.
use Rattle.std.proofs.Common.{◌≡◌, ◌≢◌, ℕ, ◌+◌, ◌<◌, ◌≤◌, Bool, true, false, not, ◌||◌, ◌==◌, nat_lt, nat_le, is_none, is_some, List, [], ◌∷◌, ◌++◌, length, map, Result, Ok, Err, refl, sym, ap, ◌∙◌, subst, arith, append-nil, length-append}
use Rattle.std.specs.Bool.{beq}
use Rattle.std.specs.Option.{unwrap_or}
use Rattle.std.specs.Ordering.{nat_cmp}
use Rattle.std.proofs.lemmas.Bool.{ltb-true, ltb-false}
use Rattle.cbt_base.specs.Keyed.{at_key}
use Rattle.cbt_lex.specs.Lines.{skip_spaces, IsOneLine}
use Rattle.cbt_lex.specs.Words.{words_of}
use Rattle.cbt_model.specs.Faults.{call_cmp}
use Rattle.cbt_model.specs.Keys.{doc_cmp}
use Rattle.cbt_model.specs.declared.events.Fate.{Fate}
use Rattle.cbt_model.specs.declared.events.Fate.TheVariants.{Plain, Lost, Late}
use Rattle.cbt_script.specs.declared.cause.Cause.{Cause}
use Rattle.cbt_script.specs.declared.cause.Cause.TheVariants.{Form, Word, Twice, Limit}
use Rattle.cbt_script.specs.declared.clients.Clients.{Clients}
use Rattle.cbt_script.specs.declared.course.Course.{Course}
use Rattle.cbt_script.specs.declared.draft.Draft.{Draft}
use Rattle.cbt_script.specs.declared.draft.Group.{Group}
use Rattle.cbt_script.specs.declared.draft.Group.TheVariants as group
use Rattle.cbt_script.specs.declared.keywords.Keyword.{Keyword}
use Rattle.cbt_script.specs.declared.keywords.Keyword.TheVariants as k
use Rattle.cbt_script.specs.declared.keywords.Operation.{Operation}
use Rattle.cbt_script.specs.declared.keywords.Setting.{Setting}
use Rattle.cbt_script.specs.Causes.{◌>>=◌}
use Rattle.cbt_script.specs.Clients.{is_inside, with_client, terms_field, begin_txn, open_terms, add_operation, end_txn}
use Rattle.cbt_script.specs.Course.{Actors, with_actor, known_actor, add_cleaner, add_stop, add_fault, item_of, add_item, add_items, add_order, set_sweep}
use Rattle.cbt_script.specs.Documents.{add_doc, add_attrs}
use Rattle.cbt_script.specs.Drafts.{start, group_number, enter, atrs_of, expiry_of, tries_of, setting_line, doc_line, attrs_line, client_line, begin_line, operation_line, end_line, cleaner_line, stop_line, fault_line, order_line, sweep_line, stands_inside, take_line, take_keyword}
use Rattle.cbt_script.specs.Fields.{actor_field, number_field}
use Rattle.cbt_script.specs.Operations.{op_field}
use Rattle.cbt_script.specs.Rules.{IsWithin, IsActorName}
use Rattle.cbt_script.specs.Settings.{max_time, max_ms, set_setting}
use Rattle.cbt_script.proofs.RulesOfFields.{Keeps, Field, keeps-any, keeps-bind, keeps-cond, keeps-required, keeps-ended, actor-kept}
use Rattle.cbt_script.proofs.RulesOfNames.{AreActors, no-actors, actors-push}
use Rattle.cbt_script.proofs.RulesOfSettings.{AreSettings, no-settings, or-default, setting-kept}
use Rattle.cbt_script.proofs.RulesOfDocuments.{AreDocuments, no-documents, doc-kept, attrs-kept}
use Rattle.cbt_script.proofs.RulesOfClients.{client_names, AreClients, no-clients, names-done, client-push, begin-kept, operation-kept, end-kept}
use Rattle.cbt_script.proofs.RulesOfCourse.{IsCourse, no-course, course-more, course-without, CleanerAdded, cleaner-kept, stop-kept, fault-kept, order-kept, sweep-kept}

-- the names of the clients and then of the cleaners
abbrev pub names_in : Clients → Course → List (List ℕ)
names_in clients course = client_names clients ++ map (λ x. x.0) course.cleaners

-- until the first line behind the clients there are no cleaners
pub record IsDraft (d : Draft) : Type 0 where
  pub settings : AreSettings d.settings
  pub documents : AreDocuments d.documents
  pub actors : AreActors d.actors (names_in d.clients d.course)
  pub clients : AreClients d.clients
  pub course : IsCourse (atrs_of d) (length (names_in d.clients d.course)) d.course
  pub before : group_number d.group ≤ 2 → d.course.cleaners ≡ []

pub start-kept : IsDraft start
start-kept = record { settings = no-settings; documents = no-documents; actors = no-actors; clients = no-clients; course = no-course 16 0; before = λ early. refl }

-- a draft in a later group
pub record IsEntered (next : Group) (d e : Draft) : Type 0 where
  pub later : group_number d.group ≤ group_number next
  pub is : e ≡ record d { group = next }

enter-kept : (next : Group) (d : Draft) → Keeps (IsEntered next d) (enter next d)
enter-kept next d =
    keeps-cond (IsEntered next d) (nat_lt (group_number next) (group_number d.group)) (Err Word) (Ok (record d { group = next })) (λ e. tt)
    (λ e. record { later = ltb-false (group_number next) (group_number d.group) e; is = refl })

entered : (next : Group) (d : Draft) → IsDraft d → group_number d.group ≤ group_number next → IsDraft (record d { group = next })
entered next d is later = record {
  settings = is.settings;
  documents = is.documents;
  actors = is.actors;
  clients = is.clients;
  course = is.course;
  before = λ early. is.before (omega arith);
}

-- behind the entry into a group
keeps-entered : (next : Group) (d : Draft) (f : Draft → Result Draft Cause) → IsDraft d
    → ((group_number d.group ≤ group_number next) → IsDraft (record d { group = next }) → Keeps IsDraft (f (record d { group = next }))) → Keeps IsDraft (enter next d >>= f)
keeps-entered next d f is then =
    keeps-bind (IsEntered next d) IsDraft (enter next d) f (enter-kept next d)
    (λ e at. subst (λ x. Keeps IsDraft (f x)) (sym at.is) (then at.later (entered next d is at.later)))

-- ---- settings that were not given

expiry-within : (d : Draft) → IsDraft d → IsWithin 1 max_time (expiry_of d)
expiry-within d is = or-default 1 max_time 15000 d.settings.expiry (omega arith, omega arith) is.settings.expiry

tries-within : (d : Draft) → IsDraft d → IsWithin 1 16 (tries_of d)
tries-within d is = or-default 1 16 8 d.settings.tries (omega arith, omega arith) is.settings.tries

-- ---- lines

setting_line-kept : (which : Setting) (d : Draft) (rest : List ℕ) → IsDraft d → Keeps IsDraft (setting_line which d rest)
unfolding setting_line
setting_line-kept which d rest is =
    keeps-entered group.Settings d _ is
    (λ later e. keeps-bind AreSettings IsDraft (set_setting which d.settings rest) _ (setting-kept which d.settings rest e.settings)
    (λ s good. record {
      settings = good;
      documents = e.documents;
      actors = e.actors;
      clients = e.clients;
      course = course-without (atrs_of d) (unwrap_or s.atrs 16) (length (names_in d.clients d.course)) d.course (is.before (omega arith)) is.course;
      before = e.before;
    }))

doc_line-kept : (d : Draft) (rest : List ℕ) → IsDraft d → Keeps IsDraft (doc_line d rest)
unfolding doc_line
doc_line-kept d rest is =
    keeps-entered group.Documents d _ is
    (λ later e. keeps-bind AreDocuments IsDraft (add_doc d.documents rest) _ (doc-kept d.documents rest is.documents)
    (λ docs good. record { settings = e.settings; documents = good; actors = e.actors; clients = e.clients; course = e.course; before = e.before }))

attrs_line-kept : (d : Draft) (rest : List ℕ) → IsDraft d → Keeps IsDraft (attrs_line d rest)
unfolding attrs_line
attrs_line-kept d rest is =
    keeps-entered group.Documents d _ is
    (λ later e. keeps-bind AreDocuments IsDraft (add_attrs d.documents rest) _ (attrs-kept d.documents rest is.documents)
    (λ docs good. record { settings = e.settings; documents = good; actors = e.actors; clients = e.clients; course = e.course; before = e.before }))

-- a client more, before the first cleaner
client-added : (d : Draft) (name : List ℕ) → IsDraft d → d.course.cleaners ≡ [] → is_inside d.clients ≡ false → IsActorName name → not (is_some (at_key doc_cmp d.actors name)) ≡ true
    → length d.actors < 64 → IsDraft (record d { actors = with_actor name d.actors; clients = with_client name d.clients })
client-added d name is none out good new room =
    let before = names_in d.clients d.course in
    let after = names_in (with_client name d.clients) d.course in
    let count : length d.actors ≡ length before = is.actors.count in
    let no_cleaners : map (λ (x : List ℕ × ℕ). x.0) d.course.cleaners ≡ [] = ap (λ cs. map (λ (x : List ℕ × ℕ). x.0) cs) none in
    let clients_only : before ≡ client_names d.clients = ap (λ xs. client_names d.clients ++ xs) no_cleaners ∙ append-nil (client_names d.clients) in
    let more : client_names (with_client name d.clients) ≡ client_names d.clients ++ name ∷ [] = ap (λ xs. xs ++ name ∷ []) (names-done d.clients.last d.clients.txns d.clients.done) in
    let names : after ≡ before ++ name ∷ [] =
    ap (λ xs. client_names (with_client name d.clients) ++ xs) no_cleaners ∙ append-nil (client_names (with_client name d.clients)) ∙ more ∙ ap (λ xs. xs ++ name ∷ []) (sym clients_only) in
    let longer : length after ≡ length before + 1 = ap length names ∙ length-append before (name ∷ []) in
    let few : length (client_names d.clients) ≡ length before = ap length (sym clients_only) in
    record {
      settings = is.settings;
      documents = is.documents;
      actors = subst (AreActors (with_actor name d.actors)) (sym names) (actors-push d.actors before name is.actors new);
      clients = client-push name d.clients is.clients out good (omega arith);
      course = course-more (atrs_of d) (length before) (length after) d.course (omega arith) is.course;
      before = is.before;
    }

client_line-kept : (d : Draft) (rest : List ℕ) → IsDraft d → is_inside d.clients ≡ false → Keeps IsDraft (client_line d rest)
unfolding client_line
client_line-kept d rest is out =
    keeps-entered group.Clients d _ is
    (λ later e. keeps-bind (Field IsActorName rest) IsDraft (actor_field rest) _ (actor-kept rest)
    (λ name good. keeps-required IsDraft (not (is_some (at_key doc_cmp d.actors name.0))) Twice _
    (λ new. keeps-ended IsDraft name.1 _
    (keeps-required IsDraft (nat_lt (length d.actors) 64) Limit _
    (λ room. client-added (record d { group = group.Clients }) name.0 e (e.before (omega arith)) out good.0 new (ltb-true (length d.actors) 64 room))))))

-- a draft with other clients of the same names
pub changed : (d : Draft) (clients : Clients) → IsDraft d → AreClients clients → client_names clients ≡ client_names d.clients → IsDraft (record d { clients = clients })
changed d clients is good same =
    let names : names_in d.clients d.course ≡ names_in clients d.course = ap (λ xs. xs ++ map (λ x. x.0) d.course.cleaners) (sym same) in
    record {
      settings = is.settings;
      documents = is.documents;
      actors = subst (AreActors d.actors) names is.actors;
      clients = good;
      course = subst (λ xs. IsCourse (atrs_of d) (length xs) d.course) names is.course;
      before = is.before;
    }

-- clients that keep the rules, with the names of others
abbrev pub AreChanged : Clients → Clients → Type 0
AreChanged before clients = AreClients clients × (client_names clients ≡ client_names before)

both : {A : Type 0} (P Q : A → Type 0) (r : Result A Cause) → Keeps P r → Keeps Q r → Keeps (λ x. P x × Q x) r
both P Q (Ok x) p q = (p, q)
both P Q (Err why) p q = tt

abbrev HasNames : Clients → Clients → Type 0
HasNames before clients = client_names clients ≡ client_names before

begin-names : (expiry tries : ℕ) (c : Clients) (rest : List ℕ) → Keeps (HasNames c) (begin_txn expiry tries c rest)
unfolding begin_txn
begin-names expiry tries c rest =
    keeps-required (HasNames c) (is_some c.last) Word _
    (λ behind. keeps-bind (λ t. Unit {0}) (HasNames c) (terms_field expiry tries rest) _ (keeps-any (terms_field expiry tries rest))
    (λ terms u. keeps-required (HasNames c) (nat_lt (length c.txns) 1024) Limit _ (λ room. refl)))

operation-names : (which : Operation) (c : Clients) (rest : List ℕ) → Keeps (HasNames c) (add_operation which c rest)
unfolding add_operation
operation-names which c rest =
    keeps-bind (λ t. Unit {0}) (HasNames c) (open_terms c) _ (keeps-any (open_terms c))
    (λ terms u. keeps-bind (λ o. Unit {0}) (HasNames c) (op_field which c.bound rest) _ (keeps-any (op_field which c.bound rest))
    (λ o v. keeps-cond (HasNames c) (nat_le 256 (length c.ops) || nat_lt 16384 (c.tried + terms.tries)) (Err Limit) _ (λ e. tt) (λ e. refl)))

end-names : (keep : Bool) (c : Clients) (rest : List ℕ) → Keeps (HasNames c) (end_txn keep c rest)
unfolding end_txn
end-names keep c rest =
    keeps-bind (λ t. Unit {0}) (HasNames c) (open_terms c) _ (keeps-any (open_terms c)) (λ terms u. keeps-ended (HasNames c) rest _ refl)

begin_line-kept : (d : Draft) (rest : List ℕ) → IsDraft d → is_inside d.clients ≡ false → Keeps IsDraft (begin_line d rest)
unfolding begin_line
begin_line-kept d rest is out =
    keeps-entered group.Clients d _ is
    (λ later e. keeps-bind (AreChanged d.clients) IsDraft (begin_txn (expiry_of d) (tries_of d) d.clients rest) _
    (both AreClients (HasNames d.clients) (begin_txn (expiry_of d) (tries_of d) d.clients rest)
    (begin-kept (expiry_of d) (tries_of d) d.clients rest (expiry-within d is) (tries-within d is) is.clients out) (begin-names (expiry_of d) (tries_of d) d.clients rest))
    (λ clients good. changed (record d { group = group.Clients }) clients e good.0 good.1))

operation_line-kept : (which : Operation) (d : Draft) (rest : List ℕ) → IsDraft d → IsOneLine rest → Keeps IsDraft (operation_line which d rest)
unfolding operation_line
operation_line-kept which d rest is one =
    keeps-bind (AreChanged d.clients) IsDraft (add_operation which d.clients rest) _
    (both AreClients (HasNames d.clients) (add_operation which d.clients rest) (operation-kept which d.clients rest is.clients one) (operation-names which d.clients rest))
    (λ clients good. changed d clients is good.0 good.1)

end_line-kept : (keep : Bool) (d : Draft) (rest : List ℕ) → IsDraft d → Keeps IsDraft (end_line keep d rest)
unfolding end_line
end_line-kept keep d rest is =
    keeps-bind (AreChanged d.clients) IsDraft (end_txn keep d.clients rest) _
    (both AreClients (HasNames d.clients) (end_txn keep d.clients rest) (end-kept keep d.clients rest is.clients) (end-names keep d.clients rest))
    (λ clients good. changed d clients is good.0 good.1)

-- ---- lines behind the clients

cleaner_line-kept : (d : Draft) (rest : List ℕ) → IsDraft d → Keeps IsDraft (cleaner_line d rest)
unfolding cleaner_line
cleaner_line-kept d rest is =
    keeps-entered group.Cleaners d _ is
    (λ later e. keeps-bind (CleanerAdded (atrs_of d) (client_names d.clients)) IsDraft (add_cleaner (atrs_of d) d.actors d.course rest) _
    (cleaner-kept (atrs_of d) (client_names d.clients) d.actors d.course rest (is.actors, is.course))
    (λ added good. record {
      settings = is.settings;
      documents = is.documents;
      actors = good.0;
      clients = is.clients;
      course = good.1;
      before = λ early. absurd (omega arith);
    }))

-- a draft with another course of the same cleaners
abbrev IsCourseOf : Draft → Course → Type 0
IsCourseOf d course = IsCourse (atrs_of d) (length (names_in d.clients d.course)) course × (course.cleaners ≡ d.course.cleaners)

on_course : (d : Draft) (course : Course) → IsDraft d → IsCourseOf d course → IsDraft (record d { course = course })
on_course d course is good =
    let names : names_in d.clients d.course ≡ names_in d.clients course = ap (λ cs. client_names d.clients ++ map (λ x. x.0) cs) (sym good.1) in
    record {
      settings = is.settings;
      documents = is.documents;
      actors = subst (AreActors d.actors) names is.actors;
      clients = is.clients;
      course = subst (λ xs. IsCourse (atrs_of d) (length xs) course) names good.0;
      before = λ early. good.1 ∙ is.before early;
    }

abbrev HasCleaners : Course → Course → Type 0
HasCleaners before course = course.cleaners ≡ before.cleaners

stop-cleaners : (actors : Actors) (c : Course) (rest : List ℕ) → Keeps (HasCleaners c) (add_stop actors c rest)
unfolding add_stop
stop-cleaners actors c rest =
    keeps-bind (λ n. Unit {0}) (HasCleaners c) (actor_field rest) _ (keeps-any (actor_field rest))
    (λ name u. keeps-bind (λ n. Unit {0}) (HasCleaners c) (known_actor actors name.0) _ (keeps-any (known_actor actors name.0))
    (λ actor v. keeps-required (HasCleaners c) (not (is_some (at_key nat_cmp c.stops actor))) Twice _
    (λ new. keeps-bind (λ n. Unit {0}) (HasCleaners c) (number_field 0 1000000 name.1) _ (keeps-any (number_field 0 1000000 name.1))
    (λ call w. keeps-ended (HasCleaners c) call.1 _ refl))))

fault-cleaners : (which : Fate) (actors : Actors) (c : Course) (rest : List ℕ) → Keeps (HasCleaners c) (add_fault which actors c rest)
unfolding add_fault
fault-cleaners which actors c rest =
    keeps-bind (λ n. Unit {0}) (HasCleaners c) (actor_field rest) _ (keeps-any (actor_field rest))
    (λ name u. keeps-bind (λ n. Unit {0}) (HasCleaners c) (known_actor actors name.0) _ (keeps-any (known_actor actors name.0))
    (λ actor v. keeps-bind (λ n. Unit {0}) (HasCleaners c) (number_field 1 1000000 name.1) _ (keeps-any (number_field 1 1000000 name.1))
    (λ call w. keeps-required (HasCleaners c) (not (is_some (at_key call_cmp c.faults.fates (actor, call.0)))) Twice _
    (λ new. keeps-ended (HasCleaners c) call.1 _ refl))))

item-cleaners : (actors : Actors) (c : Course) (word : List ℕ) → Keeps (HasCleaners c) (add_item actors c word)
unfolding add_item
item-cleaners actors c word = keeps-bind (λ n. Unit {0}) (HasCleaners c) (item_of actors word) _ (keeps-any (item_of actors word)) (λ i u. refl)

items-cleaners : (actors : Actors) (first : Course) (words : List (List ℕ)) (c : Course) → HasCleaners first c → Keeps (HasCleaners first) (add_items actors c words)
items-cleaners actors first [] c is = is
items-cleaners actors first (word ∷ words) c is =
    keeps-bind (HasCleaners c) (HasCleaners first) (add_item actors c word) (λ d. add_items actors d words) (item-cleaners actors c word)
    (λ d then. items-cleaners actors first words d (then ∙ is))

order-cleaners : (actors : Actors) (c : Course) (rest : List ℕ) → Keeps (HasCleaners c) (add_order actors c rest)
order-cleaners actors c rest =
    keeps-cond (HasCleaners c) (length (skip_spaces rest) == 0) (Err Form) (add_items actors c (words_of (skip_spaces rest))) (λ e. tt)
    (λ e. items-cleaners actors c (words_of (skip_spaces rest)) c refl)

sweep-cleaners : (c : Course) (rest : List ℕ) → Keeps (HasCleaners c) (set_sweep c rest)
unfolding set_sweep
sweep-cleaners c rest =
    keeps-required (HasCleaners c) (is_none c.sweep) Twice _
    (λ new. keeps-bind (λ n. Unit {0}) (HasCleaners c) (number_field 0 max_ms rest) _ (keeps-any (number_field 0 max_ms rest)) (λ ms u. keeps-ended (HasCleaners c) ms.1 _ refl))

-- behind the entry into a group, a change of the course alone
on_course-kept : (next : Group) (d : Draft) (r : Result Course Cause) → IsDraft (record d { group = next })
    → Keeps (IsCourse (atrs_of d) (length (names_in d.clients d.course))) r → Keeps (HasCleaners d.course) r
    → Keeps IsDraft (r >>= (λ course. Ok (record d { group = next; course = course })))
on_course-kept next d r e good same =
    keeps-bind (IsCourseOf d) IsDraft r _ (both (IsCourse (atrs_of d) (length (names_in d.clients d.course))) (HasCleaners d.course) r good same)
    (λ course is. on_course (record d { group = next }) course e is)

stop_line-kept : (d : Draft) (rest : List ℕ) → IsDraft d → Keeps IsDraft (stop_line d rest)
unfolding stop_line
stop_line-kept d rest is =
    keeps-entered group.Faults d _ is
    (λ later e. on_course-kept group.Faults d (add_stop d.actors d.course rest) e
    (stop-kept (atrs_of d) (names_in d.clients d.course) d.actors d.course rest is.actors is.course) (stop-cleaners d.actors d.course rest))

fault_line-kept : (fate : Fate) → (fate ≢ Plain) → (d : Draft) (rest : List ℕ) → IsDraft d → Keeps IsDraft (fault_line fate d rest)
unfolding fault_line
fault_line-kept fate bad d rest is =
    keeps-entered group.Faults d _ is
    (λ later e. on_course-kept group.Faults d (add_fault fate d.actors d.course rest) e
    (fault-kept fate bad (atrs_of d) (names_in d.clients d.course) d.actors d.course rest is.actors is.course) (fault-cleaners fate d.actors d.course rest))

order_line-kept : (d : Draft) (rest : List ℕ) → IsDraft d → Keeps IsDraft (order_line d rest)
unfolding order_line
order_line-kept d rest is =
    keeps-entered group.Order d _ is
    (λ later e. on_course-kept group.Order d (add_order d.actors d.course rest) e
    (order-kept (names_in d.clients d.course) d.actors is.actors (atrs_of d) d.course rest is.course) (order-cleaners d.actors d.course rest))

sweep_line-kept : (d : Draft) (rest : List ℕ) → IsDraft d → Keeps IsDraft (sweep_line d rest)
unfolding sweep_line
sweep_line-kept d rest is =
    keeps-entered group.Sweep d _ is
    (λ later e. on_course-kept group.Sweep d (set_sweep d.course rest) e
    (sweep-kept (atrs_of d) (length (names_in d.clients d.course)) d.course rest is.course) (sweep-cleaners d.course rest))

-- ---- any line

lost-bad : Lost ≢ Plain
lost-bad e = cc

late-bad : Late ≢ Plain
late-bad e = cc

same-false : (t : Bool) → beq false t ≡ true → t ≡ false
same-false true e = absurd (cc)
same-false false e = refl

line-kept : (keyword : Keyword) (d : Draft) (rest : List ℕ) → IsDraft d → IsOneLine rest → beq (stands_inside keyword) (is_inside d.clients) ≡ true → Keeps IsDraft (take_line keyword d rest)
line-kept (k.Setting which) d rest is one at = setting_line-kept which d rest is
line-kept k.Doc d rest is one at = doc_line-kept d rest is
line-kept k.Attrs d rest is one at = attrs_line-kept d rest is
line-kept k.Client d rest is one at = client_line-kept d rest is (same-false (is_inside d.clients) at)
line-kept k.Begin d rest is one at = begin_line-kept d rest is (same-false (is_inside d.clients) at)
line-kept (k.Operation which) d rest is one at = operation_line-kept which d rest is one
line-kept k.Commit d rest is one at = end_line-kept true d rest is
line-kept k.Rollback d rest is one at = end_line-kept false d rest is
line-kept k.Cleaner d rest is one at = cleaner_line-kept d rest is
line-kept k.Stop d rest is one at = stop_line-kept d rest is
line-kept k.Lost d rest is one at = fault_line-kept Lost lost-bad d rest is
line-kept k.Late d rest is one at = fault_line-kept Late late-bad d rest is
line-kept k.Order d rest is one at = order_line-kept d rest is
line-kept k.Sweep d rest is one at = sweep_line-kept d rest is

pub keyword-kept : (keyword : Keyword) (d : Draft) (rest : List ℕ) → IsDraft d → IsOneLine rest → Keeps IsDraft (take_keyword keyword d rest)
keyword-kept keyword d rest is one =
    keeps-cond IsDraft (beq (stands_inside keyword) (is_inside d.clients)) (take_line keyword d rest) (Err Word) (λ at. line-kept keyword d rest is one at) (λ e. tt)
