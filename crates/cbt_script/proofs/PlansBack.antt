-- The printed clients with their transactions are read back.
use Rattle.std.proofs.Common.{◌≡◌, ℕ, ◌+◌, ◌*◌, ◌^◌, ◌<◌, ◌≤◌, Bool, true, false, ltb, not, List, [], ◌∷◌, ◌++◌, length, map, Option, Some, None, Ok, is_some, decimal, codes, refl, sym, ap, ◌∙◌, arith, append_assoc, append-nil, length-append}
use Rattle.std.specs.List.{All}
use Rattle.std.proofs.lemmas.Bool.{lt-ltb}
use Rattle.std.proofs.lemmas.List.Elements.{All-head, All-tail}
use Rattle.cbt_base.specs.Keyed.{at_key}
use Rattle.cbt_expr.specs.declared.plans.TxnPlan.{TxnPlan}
use Rattle.cbt_lex.proofs.NamesBack.{name_word}
use Rattle.cbt_lex.proofs.WordsBack.{word_literal, led_last}
use Rattle.cbt_model.specs.Keys.{doc_cmp}
use Rattle.cbt_script.specs.declared.cause.Cause.TheVariants.{Twice, Limit}
use Rattle.cbt_script.specs.declared.clients.Terms.{Terms}
use Rattle.cbt_script.specs.declared.documents.Documents.{Documents}
use Rattle.cbt_script.specs.declared.draft.Draft.{Draft}
use Rattle.cbt_script.specs.declared.draft.Group.{Group}
use Rattle.cbt_script.specs.declared.draft.Group.TheVariants as group
use Rattle.cbt_script.specs.declared.keywords.Keyword.TheVariants as k
use Rattle.cbt_script.specs.declared.settings.Settings.{Settings}
use Rattle.cbt_script.specs.Causes.{◌>>=◌, and_then, require}
use Rattle.cbt_script.specs.Clients.{last_done, with_client, terms_field, begin_txn, plan_of, end_txn}
use Rattle.cbt_script.specs.Course.{Actors, with_actor, no_course}
use Rattle.cbt_script.specs.Drafts.{group_number, expiry_of, tries_of, client_line, begin_line, end_line}
use Rattle.cbt_script.specs.Fields.{actor_field, option_field, end_field}
use Rattle.cbt_script.specs.Keywords.{keyword_of}
use Rattle.cbt_script.specs.Operations.{Bound}
use Rattle.cbt_script.specs.Printed.{op_lines, plan_lines, txn_lines, client_lines}
use Rattle.cbt_script.specs.Printed as printed
use Rattle.cbt_script.specs.Reading.{taken}
use Rattle.cbt_script.specs.Rules.{IsActorName, IsPlan, IsClient, AreDistinct, tried_in, tried_by}
use Rattle.cbt_script.specs.Settings.{max_time}
use Rattle.cbt_script.proofs.ActorsBack.{actors_after, NoneNamed, none_named_more}
use Rattle.cbt_script.proofs.KeysBack.{longer}
use Rattle.cbt_script.proofs.DocumentsBack.{entered}
use Rattle.cbt_script.proofs.Drafted.{drafted, drafted_on, drafted_both}
use Rattle.cbt_script.proofs.KeywordsBack.{keyword_taken, line_taken}
use Rattle.cbt_script.proofs.OperationsBack.{Client, inner, bound_after, ops_back}
use Rattle.cbt_script.proofs.FieldsBack.{actor_field-next, bytes_other, option_field-next}

-- ---- terms

abbrev terms_text : ℕ → ℕ → ℕ → List ℕ
terms_text e h t = codes "expiry " ++ (decimal e ++ (codes " hold " ++ (decimal h ++ (codes " tries " ++ decimal t))))

terms_back : (expiry tries e h t : ℕ) → 1 ≤ e → e ≤ max_time → 1 ≤ h → h ≤ e → 1 ≤ t → t ≤ 16 → terms_field expiry tries (terms_text e h t) ≡ Ok (record { expiry = e; hold = h; tries = t })
unfolding terms_field
terms_back expiry tries e h t e1 e2 h1 h2 t1 t2 =
    let eb : e < 2 ^ 64 = omega arith in
    let hb : h < 2 ^ 64 = omega arith in
    let tb : t < 2 ^ 64 = omega arith in
    let third = codes " tries " ++ decimal t in
    let second = codes " hold " ++ (decimal h ++ third) in
    ap (λ r. r >>= (λ x. option_field (codes "hold") x.0 x.0 x.1 >>= (λ y. option_field (codes "tries") 16 tries y.1 >>= (λ z. end_field z.1 >>= (λ _. Ok (record { expiry = x.0; hold = y.0; tries = z.0 }))))))
    (option_field-next (codes "expiry") max_time expiry e second (word_literal (codes "expiry") refl) e1 e2 eb refl)
    ∙ ap (λ r. r >>= (λ y. option_field (codes "tries") 16 tries y.1 >>= (λ z. end_field z.1 >>= (λ _. Ok (record { expiry = e; hold = y.0; tries = z.0 })))))
    (option_field-next (codes "hold") e e h third (word_literal (codes "hold") refl) h1 h2 hb refl)
    ∙ ap (λ r. r >>= (λ z. end_field z.1 >>= (λ _. Ok (record { expiry = e; hold = h; tries = z.0 }))))
    (ap (λ x. option_field (codes "tries") 16 tries (codes "tries " ++ x)) (sym (append-nil (decimal t)))
    ∙ option_field-next (codes "tries") 16 tries t [] (word_literal (codes "tries") refl) t1 t2 tb tt)

module _ (st : Settings) (ds : Documents) where
  -- outside of transactions
  abbrev pub outer : Group → Actors → List Client → Option (List ℕ) → List TxnPlan → Bound → ℕ → Draft
  outer g actors done last txns bound tried = record {
    group = g;
    settings = st;
    documents = ds;
    actors = actors;
    clients = record { done = done; last = last; txns = txns; under_way = None; ops = []; bound = bound; tried = tried };
    course = no_course;
  }

  module _ (actors : Actors) (done : List Client) (last : List ℕ) (txns : List TxnPlan) (bound : Bound) (tried : ℕ) (few : length txns < 1024) (plan : TxnPlan) (is : IsPlan plan) where
    abbrev the_terms : Terms
    the_terms = record { expiry = plan.expiry; hold = plan.hold; tries = plan.tries }

    abbrev here : Draft
    here = outer group.Clients actors done (Some last) txns bound tried

    abbrev begun : Draft
    begun = inner st ds actors done last txns the_terms [] [] tried

    begin_taken : taken here (printed.begin_line plan) ≡ Ok begun
    unfolding keyword_of begin_line begin_txn
    begin_taken =
        let e = decimal plan.expiry in
        let rest = terms_text plan.expiry plan.hold plan.tries in
        ap (λ x. taken here (codes "begin expiry " ++ x)) (append_assoc e (codes " hold " ++ decimal plan.hold) (codes " tries " ++ decimal plan.tries))
        ∙ line_taken here 98 (codes "egin") rest k.Begin refl refl refl (λ same. omega arith)
        ∙ ap (λ r. (r >>= (λ terms. require (ltb (length txns) 1024) Limit >>= (λ _. Ok (record here.clients { under_way = Some terms; ops = []; bound = [] })))) >>= (λ c. Ok (record here { clients = c })))
        (terms_back (expiry_of here) (tries_of here) plan.expiry plan.hold plan.tries is.expiry.0 is.expiry.1 is.hold.0 is.hold.1 is.tries.0 is.tries.1)
        ∙ ap (λ t. (require t Limit >>= (λ _. Ok (record here.clients { under_way = Some the_terms; ops = []; bound = [] }))) >>= (λ c. Ok (record here { clients = c }))) (lt-ltb (length txns) 1024 few)

    abbrev ended_with : Bound → ℕ → Draft
    ended_with b n = outer group.Clients actors done (Some last) (txns ++ plan ∷ []) b n

    end_taken : (keep : Bool) → keep ≡ plan.keep → (b : Bound) (n : ℕ) → taken (inner st ds actors done last txns the_terms plan.ops b n) (printed.end_line keep) ≡ Ok (ended_with b n)
    unfolding keyword_of end_line end_txn
    end_taken true same b n =
        keyword_taken (inner st ds actors done last txns the_terms plan.ops b n) 99 (codes "ommit") [] k.Commit refl refl refl tt
        ∙ ap (λ kept. Ok (outer group.Clients actors done (Some last) (txns ++ plan_of the_terms plan.ops kept ∷ []) b n)) same
    end_taken false same b n =
        keyword_taken (inner st ds actors done last txns the_terms plan.ops b n) 114 (codes "ollback") [] k.Rollback refl refl refl tt
        ∙ ap (λ kept. Ok (outer group.Clients actors done (Some last) (txns ++ plan_of the_terms plan.ops kept ∷ []) b n)) same

    plan_back : tried + length plan.ops * plan.tries ≤ 16384
        → drafted here (plan_lines plan) ≡ Ok (ended_with (bound_after plan.ops []) (tried + length plan.ops * plan.tries))
    plan_back room =
        let b = bound_after plan.ops [] in
        let n = tried + length plan.ops * plan.tries in
        let many : length plan.ops ≤ 256 = is.ops_few in
        let mid = inner st ds actors done last txns the_terms plan.ops b n in
        drafted_on here begun (ended_with b n) (printed.begin_line plan) (op_lines plan.ops ++ printed.end_line plan.keep ∷ []) begin_taken
        (drafted_both begun mid (ended_with b n) (op_lines plan.ops) (printed.end_line plan.keep ∷ [])
        (ops_back st ds actors done last txns the_terms [] plan.ops [] tried is.ops (omega arith) room)
        (ap (λ r. and_then r (λ x. Ok x)) (end_taken plan.keep refl b n)))

  -- the names that are bound behind transactions
  abbrev pub bound_past : List TxnPlan → Bound → Bound
  bound_past [] bound = bound
  bound_past (plan ∷ plans) bound = bound_past plans (bound_after plan.ops [])

  plans_back : (actors : Actors) (done : List Client) (last : List ℕ) (txns more : List TxnPlan) (bound : Bound) (tried : ℕ) → All IsPlan more
      → length txns + length more ≤ 1024 → tried + tried_in more ≤ 16384
      → drafted (outer group.Clients actors done (Some last) txns bound tried) (txn_lines more) ≡ Ok (outer group.Clients actors done (Some last) (txns ++ more) (bound_past more bound) (tried + tried_in more))
  plans_back actors done last txns [] bound tried all few room =
      let same : tried ≡ tried + 0 = omega arith in
      ap (λ x. Ok (outer group.Clients actors done (Some last) x bound tried)) (sym (append-nil txns)) ∙ ap (λ n. Ok (outer group.Clients actors done (Some last) (txns ++ []) bound n)) same
  plans_back actors done last txns (plan ∷ more) bound tried all few room =
      let is = All-head IsPlan plan more all in
      let some = length plan.ops * plan.tries in
      let next = tried + some in
      let e = length-append txns (plan ∷ []) in
      let same : next + tried_in more ≡ tried + (some + tried_in more) = omega arith in
      let b = bound_after plan.ops [] in
      drafted_both (outer group.Clients actors done (Some last) txns bound tried) (outer group.Clients actors done (Some last) (txns ++ plan ∷ []) b next)
      (outer group.Clients actors done (Some last) (txns ++ plan ∷ more) (bound_past more b) (tried + (some + tried_in more))) (plan_lines plan) (txn_lines more)
      (plan_back actors done last txns bound tried (omega arith) plan is (omega arith))
      (plans_back actors done last (txns ++ plan ∷ []) more b next (All-tail IsPlan plan more all) (omega arith) (omega arith)
      ∙ ap (λ x. Ok (outer group.Clients actors done (Some last) x (bound_past more b) (next + tried_in more))) (append_assoc txns (plan ∷ []) more)
      ∙ ap (λ n. Ok (outer group.Clients actors done (Some last) (txns ++ plan ∷ more) (bound_past more b) n)) same)

  -- ---- clients

  module _ (g : Group) (low : group_number g ≤ 2) (actors : Actors) (done : List Client) (last : Option (List ℕ)) (txns : List TxnPlan) (bound : Bound) (tried : ℕ)
      (name : List ℕ) (named : IsActorName name) where
    abbrev at_client : Draft
    at_client = outer g actors done last txns bound tried

    abbrev past_client : Draft
    past_client = outer group.Clients (with_actor name actors) (last_done last txns done) (Some name) [] bound tried

    client_taken : at_key doc_cmp actors name ≡ None → length actors < 64 → taken at_client (codes "client " ++ name) ≡ Ok past_client
    unfolding keyword_of client_line
    client_taken new few =
        let word = name_word name named.0 in
        line_taken at_client 99 (codes "lient") name k.Client refl refl refl (led_last name word)
        ∙ ap (λ r. r >>= (λ e. actor_field name >>= (λ n. require (not (is_some (at_key doc_cmp e.actors n.0))) Twice >>= (λ _. end_field n.1 >>= (λ _. require (ltb (length e.actors) 64) Limit
        >>= (λ _. Ok (record e { actors = with_actor n.0 e.actors; clients = with_client n.0 e.clients }))))))) (entered group.Clients at_client low)
        ∙ ap (λ r. r >>= (λ n. require (not (is_some (at_key doc_cmp actors n.0))) Twice >>= (λ _. end_field n.1 >>= (λ _. require (ltb (length actors) 64) Limit
        >>= (λ _. Ok (outer group.Clients (with_actor n.0 actors) (last_done last txns done) (Some n.0) [] bound tried))))))
        (ap actor_field (sym (append-nil name)) ∙ actor_field-next name [] word tt named.0 (bytes_other name (codes "sweep") named.1))
        ∙ ap (λ o. require (not (is_some o)) Twice >>= (λ _. require (ltb (length actors) 64) Limit >>= (λ _. Ok past_client))) new
        ∙ ap (λ t. require t Limit >>= (λ _. Ok past_client)) (lt-ltb (length actors) 64 few)

  pub record ClientsRead (g : Group) (actors : Actors) (done : List Client) (last : Option (List ℕ)) (txns : List TxnPlan) (bound : Bound) (tried : ℕ) (more : List Client) : Type 0 where
    pub end_group : Group
    pub low : group_number end_group ≤ 2
    pub end_done : List Client
    pub end_last : Option (List ℕ)
    pub end_txns : List TxnPlan
    pub end_bound : Bound
    pub end_tried : ℕ
    pub whole : last_done end_last end_txns end_done ≡ last_done last txns done ++ more
    pub reads : drafted (outer g actors done last txns bound tried) (client_lines more) ≡ Ok (outer end_group (actors_after (map (λ c. c.0) more) actors) end_done end_last end_txns end_bound end_tried)

  pub clients_back : (g : Group) (actors : Actors) (done : List Client) (last : Option (List ℕ)) (txns : List TxnPlan) (bound : Bound) (tried : ℕ) (more : List Client)
      → group_number g ≤ 2 → All IsClient more → AreDistinct (map (λ c. c.0) more) → NoneNamed actors (map (λ c. c.0) more) → length actors + length more ≤ 64 → tried + tried_by more ≤ 16384
      → ClientsRead g actors done last txns bound tried more
  clients_back g actors done last txns bound tried [] low all apart none few room = record {
    end_group = g;
    low = low;
    end_done = done;
    end_last = last;
    end_txns = txns;
    end_bound = bound;
    end_tried = tried;
    whole = sym (append-nil (last_done last txns done));
    reads = refl;
  }
  clients_back g actors done last txns bound tried (client ∷ more) low all apart none few room =
      let is = All-head IsClient client more all in
      let name = client.0 in
      let plans = client.1.txns in
      let now = with_actor name actors in
      let whole_done = last_done last txns done in
      let some = tried_in plans in
      let one = longer doc_cmp actors name (length actors + 1) none.0 in
      let tail = clients_back group.Clients now whole_done (Some name) plans (bound_past plans bound) (tried + some) more (omega arith) (All-tail IsClient client more all) apart.1
      (none_named_more actors name (map (λ c. c.0) more) apart.0 none.1) (omega arith) (omega arith) in
      let first = outer group.Clients now whole_done (Some name) [] bound tried in
      let second = outer group.Clients now whole_done (Some name) plans (bound_past plans bound) (tried + some) in
      let end = outer tail.end_group (actors_after (map (λ c. c.0) more) now) tail.end_done tail.end_last tail.end_txns tail.end_bound tail.end_tried in
      record {
        end_group = tail.end_group;
        low = tail.low;
        end_done = tail.end_done;
        end_last = tail.end_last;
        end_txns = tail.end_txns;
        end_bound = tail.end_bound;
        end_tried = tail.end_tried;
        whole = tail.whole ∙ append_assoc whole_done (client ∷ []) more;
        reads = drafted_on (outer g actors done last txns bound tried) first end (codes "client " ++ name) (txn_lines plans ++ client_lines more)
            (client_taken g low actors done last txns bound tried name is.0 none.0 (omega arith))
            (drafted_both first second end (txn_lines plans) (client_lines more)
            (plans_back now whole_done name [] plans bound tried is.1 (let many : length plans ≤ 1024 = is.2 in omega arith) (omega arith)) tail.reads);
      }
