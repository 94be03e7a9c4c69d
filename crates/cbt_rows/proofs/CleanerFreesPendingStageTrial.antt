-- A cleaner drops the entry of a client that was stopped, and another client writes over its staging.
use Rattle.std.proofs.Common.{◌≡◌, ◌≢◌, ℕ, suc, true, false, ◌==◌, inl, inr, [], ◌∷◌, length, Some, None, refl, sym, subst, arith, lit≤, lit<, slice_get, ◌+◌, ◌<◌, ◌≤◌, ◌^◌}
use Rattle.std.specs.List.Sorted.{IsStrictlySortedBy}
use Rattle.cbt_base.specs.Clock.{clock_of}
use Rattle.cbt_base.specs.Ids.{attempt_number}
use Rattle.cbt_model.specs.Faults.{fate_of}
use Rattle.cbt_model.specs.Fitting.{step_fits}
use Rattle.cbt_model.specs.History.{commits}
use Rattle.cbt_model.specs.Legal.{calls_below, line_due, ahead_at}
use Rattle.cbt_base.specs.Clock.{held}
use Rattle.cbt_model.specs.Table.{row}
use Rattle.cbt_model.specs.declared.documents.OpKind.TheVariants.{Replace}
use Rattle.cbt_model.specs.declared.entries.EntryState.TheVariants.{Pending}
use Rattle.cbt_model.specs.declared.events.Event.{Event}
use Rattle.cbt_model.specs.declared.steps.Expect.TheVariants as expect
use Rattle.cbt_book.specs.Cleaners as cleaners
use Rattle.cbt_book.specs.Licence as licence
use Rattle.cbt_book.specs.Licence.{IsLicensed, MayTake}
use Rattle.cbt_book.specs.OwnLists.{Once, In}
use Rattle.cbt_book.specs.Passes as passes
use Rattle.cbt_book.specs.ReadAt as ways
use Rattle.cbt_book.specs.Shown as shown
use Rattle.cbt_book.specs.Shown.{adds, aborts, decides}
use Rattle.cbt_book.specs.Spans as spans
use Rattle.cbt_book.specs.Closing.{drops}
use Rattle.cbt_book.specs.Closing as closing
use Rattle.cbt_expr.specs.declared.plans.Op.TheVariants as op
use Rattle.cbt_model.specs.Fresh.{IsFresh}
use Rattle.cbt_book.specs.declared.operations.When.TheVariants as when
use Rattle.cbt_core.specs.Attempts as attempts
use Rattle.cbt_core.specs.Clients.{FollowsPlan}
use Rattle.cbt_core.specs.OpAnswers as answers
use Rattle.cbt_core.specs.OpCalls as op_calls
use Rattle.cbt_core.specs.Operations as operations
use Rattle.cbt_core.specs.Runs.{own_of, identity_of, IsLegalRun, AreLicensed, LogsFollow, cleaner_plan}
use Rattle.cbt_core.specs.Stops as stops
use Rattle.cbt_core.specs.Stops.{HasCall, LastHasCall, StopsKept}
use Rattle.cbt_core.specs.Transactions as transactions
use Rattle.cbt_core.specs.Walk as walk
use Rattle.cbt_core.specs.WriteSets.{numbered}
use Rattle.cbt_rows.proofs.Fits.{fits-n2, fits-n3}
use Rattle.cbt_rows.proofs.Named.{found-all, all_in, both_numbered, nothing, all_listed, named, all_from, own-none, all_numbered, all_planned, one_value, not_me, ◌▸◌, ◌▹◌, by_number}
use Rattle.cbt_rows.proofs.Never.{never_of, none_settled, done, not_of, never_writes, never_resolved, not_third, unfailed, no_bool}
use Rattle.cbt_rows.proofs.Requested.{follows_as, noted_by, replaces-n2, replaces-n3, table_by}
use Rattle.cbt_rows.proofs.Stops.{runs_on, clients_stopped, within_one, stopped_before_closing}
use Rattle.cbt_rows.specs.Words.{HasValue, doc_a, n, stage_of, lists_of, entry_of}
use Rattle.cbt_rows.specs.Written.{n_of}
use Rattle.cbt_rows.specs.CleanerFreesPendingStage.{opening, past_0, past_1, past_3, past_5, past_7, past_8, past_9, past_10, past_11, past_12, past_13, history, marks, plans, run_case, book, e1, e2, e4, e6, e10, e11, e12, e13, e14, m0, m1, m2, m3, m4, m5, m6, m7, m8, m9, m10, m11, m12, m13, m14, made_1, made_2, made_3, plan_1_1, plan_2_1, client_1, txn_1_1, attempt_1_1_1, op_1_1_1_1, client_2, attempt_2_1_1, op_2_1_1_1, cleaner_1}

own-1 : own_of book 1 ≡ made_1
unfolding row clock_of
own-1 = refl

own-2 : own_of book 2 ≡ made_2
unfolding row clock_of
own-2 = refl

own-3 : own_of book 3 ≡ made_3
unfolding row clock_of
own-3 = refl

pub fresh : IsFresh opening
unfolding IsStrictlySortedBy
fresh = record {
  ordered = record { docs = (tt, tt); entries = tt; clients = tt };
  entries = refl;
  clients = refl;
  unstaged = found-all (λ x. x.stage ≡ None) opening.docs (refl ▸ tt);
  low = found-all (λ x. x.cas ≤ opening.last) opening.docs (lit≤ tt ▸ tt);
}

fates : (i : ℕ) (e : Event) → slice_get history i ≡ Some e → e.fate ≡ fate_of run_case.faults e.actor (suc (calls_below history e.actor i))
fates = all_from (λ i e. e.fate ≡ fate_of run_case.faults e.actor (suc (calls_below history e.actor i))) history (refl ▸ refl ▸ refl ▸ refl ▸ refl ▸
    refl ▸ refl ▸ refl ▸ refl ▸ refl ▸ refl ▸ refl ▸ refl ▸ refl ▸ refl ▸ tt)

fitting : (i : ℕ) (e : Event) → slice_get history i ≡ Some e → step_fits e.step ≡ true
fitting = all_from (λ i e. step_fits e.step ≡ true) history (refl ▸ refl ▸ fits-n2 ▸ refl ▸ refl ▸ refl ▸ refl ▸ refl ▸ refl ▸ refl ▸ refl ▸ fits-n3
    ▸ refl ▸ fits-n3 ▸ refl ▸ tt)

readings : (i : ℕ) (e : Event) → slice_get history i ≡ Some e → e.reading ≡ held (line_due (1000, 1) i + ahead_at marks i)
readings = all_from (λ i e. e.reading ≡ held (line_due (
  1000,
  1,
) i + ahead_at marks i)) history (refl ▸ refl ▸ refl ▸ refl ▸ refl ▸ refl ▸ refl ▸ refl ▸ refl ▸ refl ▸ refl ▸ refl ▸ refl ▸ refl ▸ refl ▸ tt)

actor-1 : (0 < 1) × (1 ≤ run_case.actors)
actor-1 = (lit< tt, lit≤ tt)

actor-2 : (0 < 2) × (2 ≤ run_case.actors)
actor-2 = (lit< tt, lit≤ tt)

actor-3 : (0 < 3) × (3 ≤ run_case.actors)
actor-3 = (lit< tt, lit≤ tt)

numbers : (i : ℕ) (e : Event) → slice_get history i ≡ Some e → (0 < e.actor) × (e.actor ≤ run_case.actors)
numbers = all_from (λ i e. (0 < e.actor) × (e.actor ≤ run_case.actors)) history (actor-1 ▸ actor-1 ▸ actor-1 ▸ actor-3 ▸ actor-3 ▸ actor-3 ▸ actor-3
    ▸ actor-2 ▸ actor-2 ▸ actor-2 ▸ actor-2 ▸ actor-2 ▸ actor-2 ▸ actor-2 ▸ actor-2 ▸ tt)

pub legal : IsLegalRun run_case book
legal = record {
  limits = record {
    txns = all_numbered (λ k plan. length plan.txns < 2 ^ 16) plans (lit< tt ▸ lit< tt ▸ tt);
    tries = all_planned (λ plan. plan.tries < 2 ^ 32) plans ((lit< tt ▸ tt) ▸ (lit< tt ▸ tt) ▸ tt);
    actors = refl;
  };
  opening = refl;
  history = record {
    keeps = record {
      fates = fates;
      fitting = fitting;
      readings = λ line is. record {
        each = λ i e at. one_value (λ it. e.reading ≡ held (line_due it i + ahead_at marks i)) (
          1000,
          1,
        ) (readings i e at) line is;
      };
    };
    numbered = numbers;
  };
}

may-2 : MayTake (identity_of run_case 1) past_1 e2.step
may-2 = record {
  added = inl (shown.added 15000 1000996864 refl refl);
  undecided = never_of decides (attempt_number 1 1 1) past_1 refl;
  over = licence.on_unstaged 1 refl (inr (inl (Some (n 1), (refl, refl))));
}

may-1 : MayTake (identity_of run_case 1) past_0 e1.step
may-1 = record { own = refl; first = never_of adds (attempt_number 1 1 1) past_0 refl }

licensed-1 : IsLicensed (identity_of run_case 1) made_1
licensed-1 = (may-2 ▸ may-1 ▸ tt ▸ tt)

may-14 : MayTake (identity_of run_case 2) past_13 e14.step
may-14 = record {
  showing = m12;
  shown = (lists_of [] (doc_a ∷ []) []);
  due = (lists_of [] (doc_a ∷ []) []);
  earlier = inr (inl refl);
  decided = inl (shown.own_commit 21011955712 refl refl);
  due_is = licence.of_own ((not_of decides (attempt_number 2 1 1) m13 refl ▹ inl (0, inl refl)));
  cleared = all_listed (λ d. Once (λ m before. In m12 before × licence.Clears (attempt_number 2 1 1) m12 d m before) past_13) (lists_of [] (doc_a ∷
      []) []) (
        tt,
        (inl (
          inl refl,
          licence.unstaged 21010972672 (licence.publishes (n 3) refl) refl (inr (inl (
            (stage_of (attempt_number 2 1 1) 0 Replace (Some (n 3))),
            refl,
            shown.by_stage ((expect.Cas 1001979904), refl, refl),
          ))),
        ) ▸ tt),
        tt,
      );
}

may-13 : MayTake (identity_of run_case 2) past_12 e13.step
may-13 = record {
  stage = (stage_of (attempt_number 2 1 1) 0 Replace (Some (n 3)));
  staged = inr (inl (shown.by_stage ((expect.Cas 1001979904), refl, refl)));
  content_is = refl;
  committed = inl ((lists_of [] (doc_a ∷ []) []), shown.own_commit 21011955712 refl refl);
}

may-12 : MayTake (identity_of run_case 2) past_11 e12.step
may-12 = record {
  written = (done (attempt_number 2 1 1) m11 _ refl ▹ inl (shown.added 15000 21009989632 refl refl));
  unaborted = never_of aborts (attempt_number 2 1 1) past_11 refl;
  named = named (attempt_number 2 1 1) (lists_of [] (doc_a ∷ []) []) past_11 (
    tt,
    (inl (
      (expect.Cas 1001979904),
      (stage_of (attempt_number 2 1 1) 0 Replace (Some (n 3))),
      refl,
      refl,
      refl,
    ) ▸ tt),
    tt,
  ) ((λ e. inl refl) ▸ tt ▸ tt ▸ tt ▸ tt ▸ tt);
  again = none_settled past_11 0 (attempt_number 2 1 1) refl;
}

may-11 : MayTake (identity_of run_case 2) past_10 e11.step
may-11 = record {
  added = inl (shown.added 15000 21009989632 refl refl);
  undecided = never_of decides (attempt_number 2 1 1) past_10 refl;
  over = licence.on_dead 1001979904 (stage_of (attempt_number 1 1 1) 0 Replace (Some (n 2))) refl (inr (inr (inl (
    (refl, refl),
    inl (
      Some (n 1),
      (refl, refl),
    ),
  ))));
}

may-10 : MayTake (identity_of run_case 2) past_9 e10.step
may-10 = record { own = refl; first = never_of adds (attempt_number 2 1 1) past_9 refl }

licensed-2 : IsLicensed (identity_of run_case 2) made_2
licensed-2 = (may-14 ▸ may-13 ▸ may-12 ▸ may-11 ▸ may-10 ▸ tt ▸ tt ▸ tt ▸ tt)

may-6 : MayTake (identity_of run_case 3) past_5 e6.step
may-6 = inl (
  ((attempt_number 1 1 1, (entry_of Pending 1000996864 15000 (lists_of [] [] []))) ∷ []),
  (entry_of Pending 1000996864 15000 (lists_of [] [] [])),
  (refl, refl),
  inl refl,
  lit< tt,
)

may-4 : MayTake (identity_of run_case 3) past_3 e4.step
may-4 = record { own = refl; few = lit≤ tt; rising = λ k h. absurd (omega arith); read = inl (([]), refl, refl, λ id h. absurd h) }

licensed-3 : IsLicensed (identity_of run_case 3) made_3
licensed-3 = (may-6 ▸ tt ▸ may-4 ▸ tt ▸ tt)

abbrev IsFor : ℕ → Type 0
IsFor actor = IsLicensed (identity_of run_case actor) (own_of book actor)

unlicensed : (actor : ℕ) → actor ≢ 1 → actor ≢ 2 → actor ≢ 3 → IsFor actor
unlicensed actor ne1 ne2 ne3 = subst (λ l. IsLicensed (identity_of run_case actor) l) (sym (own-none opening history actor (all_from (λ i e. (e.actor
    == actor) ≡ false) history (not_me 1 actor ne1 ▸ not_me 1 actor ne1 ▸ not_me 1 actor ne1 ▸ not_me 3 actor ne3 ▸ not_me 3 actor ne3 ▸ not_me 3
    actor ne3 ▸ not_me 3 actor ne3 ▸ not_me 2 actor ne2 ▸ not_me 2 actor ne2 ▸ not_me 2 actor ne2 ▸ not_me 2 actor ne2 ▸ not_me 2 actor ne2 ▸ not_me
    2 actor ne2 ▸ not_me 2 actor ne2 ▸ not_me 2 actor ne2 ▸ tt)) (length history))) tt

pub licensed : AreLicensed run_case book
licensed actor = by_number IsFor 1 (subst (λ l. IsLicensed (identity_of run_case 1) l) (sym own-1) licensed-1) actor (λ ne1. by_number IsFor 2 (subst
    (λ l. IsLicensed (identity_of run_case 2) l) (sym own-2) licensed-2) actor (λ ne2. by_number IsFor 3 (subst (λ l. IsLicensed (identity_of
    run_case 3) l) (sym own-3) licensed-3) actor (λ ne3. unlicensed actor ne1 ne2 ne3)))

abbrev txn_1_1-terms : transactions.TxnTerms
txn_1_1-terms = record { client = 1; number = 1; plan = plan_1_1; atrs = 1 }

op_1_1_1_1-follows : operations.OpFollows (transactions.attempt_terms txn_1_1-terms 1000 1) made_1 0 1 walk.nothing_yet (op.Replace doc_a (n_of 2))
    op_1_1_1_1
op_1_1_1_1-follows = follows_as (replaces-n2 _) (record {
  counted = refl;
  spanned = record { follows = lit≤ tt; next = refl; ends = spans.with_calls m0 m2 (inr (inr (inl refl))) (inl refl) refl refl };
  answered = inl (
    (refl, refl),
    answers.over_reading (record {
      value = Some (n 1);
      cas = Some 1;
      by = None;
      gone = false;
      moment = 0;
    }) (stage_of (attempt_number 1 1 1) 0 Replace (Some (n 2))) refl (answers.on_own refl (ways.unstaged 1 refl refl refl (inr (inr (inl
        (refl, (refl, refl)))))) refl) refl (record { attempt = refl; kind_is = refl; content_is = refl }) refl,
  );
  calls = (
    record {
      only = ((refl, refl) ▸ (refl, refl, refl) ▸ refl ▸ tt);
      readings = lit≤ tt;
      entries = lit≤ tt;
      added = lit≤ tt;
      written_last = (never_writes past_1 refl ▸ never_writes past_0 refl ▸ never_writes [] refl ▸ tt);
    },
    op_calls.unserved refl refl,
  );
  stands = ((λ e. ((when.At 0), refl)) ▸ (λ e. tt) ▸ (λ e. tt) ▸ tt);
  failed = (unfailed m2 refl ▸ unfailed m1 refl ▸ unfailed m0 refl ▸ tt);
  in_time = (lit≤ tt ▸ lit≤ tt ▸ lit≤ tt ▸ tt);
})

attempt_1_1_1-follows : attempts.AttemptFollows (transactions.attempt_terms txn_1_1-terms 1000 1) made_1 0 attempt_1_1_1
attempt_1_1_1-follows = record {
  id = refl;
  spanned = record { follows = lit≤ tt; next = refl; ends = spans.with_calls m0 m2 (inr (inr (inl refl))) (inl refl) refl refl };
  ops = (op_1_1_1_1-follows, tt, tt);
  held = lit≤ tt;
  cut = [];
  closing = [];
  rest = refl;
  cut_follows = tt;
  ended = attempts.all_answered refl;
  closes = tt;
  may_commit = λ h. absurd (never_of commits (attempt_number 1 1 1) [] refl h);
  may_abort = λ h. absurd (never_of aborts (attempt_number 1 1 1) [] refl h);
  third = ((λ e. absurd (no_bool (sym e))), λ h. absurd (not_third (attempt_number 1 1 1) [] (lit≤ tt) h));
  ends = tt;
}

client_1-follows : FollowsPlan 1 1 (record { txns = plan_1_1 ∷ [] }) made_1 client_1
client_1-follows = record {
  txns = (
    record {
      start = 1000;
      start_is = refl;
      attempts = (attempt_1_1_1-follows, tt, tt);
      few = lit≤ tt;
      ends = transactions.in_attempt refl;
    },
    tt,
    tt,
  );
  whole = inl refl;
  inside = (lit< tt ▸ lit< tt ▸ lit< tt ▸ tt);
  counted = refl;
}

abbrev txn_2_1-terms : transactions.TxnTerms
txn_2_1-terms = record { client = 2; number = 1; plan = plan_2_1; atrs = 1 }

op_2_1_1_1-follows : operations.OpFollows (transactions.attempt_terms txn_2_1-terms 21007 1) made_2 0 1 walk.nothing_yet (op.Replace doc_a (n_of 3))
    op_2_1_1_1
op_2_1_1_1-follows = follows_as (replaces-n3 _) (record {
  counted = refl;
  spanned = record { follows = lit≤ tt; next = refl; ends = spans.with_calls m7 m11 (inr (inr (inr (inr (inl refl))))) (inl refl) refl refl };
  answered = inl (
    (refl, refl),
    answers.over_reading (record {
      value = Some (n 1);
      cas = Some 1001979904;
      by = Some (0, attempt_number 1 1 1);
      gone = true;
      moment = 9;
    }) (stage_of (attempt_number 2 1 1) 0 Replace (Some (n 3))) refl (answers.on_own refl (ways.dead 1001979904 (stage_of
        (attempt_number 1 1 1) 0 Replace (Some (n 2))) refl refl refl (inr (inr (inl (
          refl,
          (Some (stage_of (attempt_number 1 1 1) 0 Replace (Some (n 2))), (refl, refl)),
          inl (
            (refl, refl),
            inl (
              Some (n 1),
              (
                refl,
                refl,
              ),
            ),
          ),
        ))))) refl) refl (record { attempt = refl; kind_is = refl; content_is = refl }) refl,
  );
  calls = (
    record {
      only = ((refl, refl) ▸ (refl, refl, refl) ▸ refl ▸ tt ▸ refl ▸ tt);
      readings = lit≤ tt;
      entries = lit≤ tt;
      added = lit≤ tt;
      written_last = (never_writes past_10 refl ▸ never_writes past_9 refl ▸ never_writes past_8 refl ▸ never_writes past_7 refl ▸ never_writes []
          refl ▸ tt);
    },
    op_calls.unserved refl refl,
  );
  stands = ((λ e. ((when.At 9), refl)) ▸ (λ e. tt) ▸ (λ e. tt) ▸ (λ e. tt) ▸ (λ e. tt) ▸ tt);
  failed = (unfailed m11 refl ▸ unfailed m10 refl ▸ unfailed m9 refl ▸ unfailed m8 refl ▸ unfailed m7 refl ▸ tt);
  in_time = (lit≤ tt ▸ lit≤ tt ▸ lit≤ tt ▸ lit≤ tt ▸ lit≤ tt ▸ tt);
})

attempt_2_1_1-follows : attempts.AttemptFollows (transactions.attempt_terms txn_2_1-terms 21007 1) made_2 0 attempt_2_1_1
attempt_2_1_1-follows = record {
  id = refl;
  spanned = record {
    follows = lit≤ tt;
    next = refl;
    ends = spans.with_calls m7 m14 (inr (inr (inr (inr (inr (inr (inr (inl refl)))))))) (inl refl) refl refl;
  };
  ops = (op_2_1_1_1-follows, tt, tt);
  held = lit≤ tt;
  cut = [];
  closing = (m14 ∷ m13 ∷ m12 ∷ []);
  rest = refl;
  cut_follows = tt;
  ended = attempts.all_answered refl;
  closes = ((refl, inr (inl refl), never_of drops (attempt_number 2 1 1) (m13 ∷ m12 ∷ []) refl) ▸ (
    inl (
      0,
      (lists_of [] (doc_a ∷ []) []),
      refl,
      (Replace, inl refl),
    ),
    never_resolved doc_a (m12 ∷ []) refl,
  ) ▸ (refl, lit< tt) ▸ tt);
  may_commit = λ h. record { all = refl; good = refl; keep = refl };
  may_abort = λ h. absurd (never_of aborts (attempt_number 2 1 1) (m14 ∷ m13 ∷ m12 ∷ []) refl h);
  third = ((λ e. absurd (no_bool (sym e))), λ h. absurd (not_third (attempt_number 2 1 1) (m14 ∷ m13 ∷ m12 ∷ []) (lit≤ tt) h));
  ends = (
    record {
      all = refl;
      good = refl;
      keep = refl;
    },
    closing.told ((not_of commits (attempt_number 2 1 1) m14 refl ▹ not_of commits (attempt_number 2 1 1) m13 refl ▹ inl (
      refl,
      (
        0,
        21011955712,
        (lists_of [] (doc_a ∷ []) []),
        refl,
        refl,
      ),
    ))),
    (
      inl ((0, refl), inl refl),
      ((λ e. unfailed m14 refl) ▸ (λ e. unfailed m13 refl) ▸ (λ e. unfailed m12 refl) ▸ tt),
    ),
  );
}

client_2-follows : FollowsPlan 2 1 (record { txns = plan_2_1 ∷ [] }) made_2 client_2
client_2-follows = record {
  txns = (record { start = 21007; start_is = refl; attempts = (attempt_2_1_1-follows, tt, tt); few = lit≤ tt; ends = (12, refl) }, tt, tt);
  whole = inl refl;
  inside = (lit< tt ▸ lit< tt ▸ lit< tt ▸ lit< tt ▸ lit< tt ▸ lit< tt ▸ lit< tt ▸ lit< tt ▸ tt);
  counted = refl;
}

cleaner_1-follows : cleaners.CleanerFollows (cleaner_plan run_case 1 1) made_3 cleaner_1
cleaner_1-follows = record {
  id = refl;
  kept = record { inside = (lit< tt ▸ lit< tt ▸ lit< tt ▸ lit< tt ▸ tt); counted = refl; adds_none = (refl ▸ refl ▸ refl ▸ refl ▸ tt) };
  rounds = (record {
    spanned = record {
      follows = lit≤ tt;
      next = refl;
      ends = spans.with_calls m3 m6 (inr (inr (inr (inl refl)))) (inl refl) refl refl;
    };
    goes = inl (record {
      rows = ([]);
      later = (m6 ∷ m5 ∷ []);
      beat = m4;
      read = m3;
      calls = refl;
      reads = refl;
      shown = refl;
      beats = refl;
      beaten = λ e. unfailed m4 refl e;
      share = refl;
      passes = record {
        over = refl;
        follow = (record {
          spanned = record {
            follows = lit≤ tt;
            next = refl;
            ends = spans.with_calls m5 m6 (inr (inl refl)) (inl refl) refl refl;
          };
          first = m5;
          later = (m6 ∷ []);
          calls = refl;
          may = record { reads = refl; only = ((refl, inl refl, lit≤ tt) ▸ tt); documents = lit≤ tt };
          ends = record {
            entries = ((attempt_number 1 1 1, (entry_of Pending 1000996864 15000 (lists_of [] [] []))) ∷ []);
            shown = refl;
            covered_is = refl;
            finished = all_in (λ a. passes.Finishes 0 a (m6 ∷ m5 ∷ [])) ((attempt_number 1 1 1) ∷ []) (passes.dropped (inl (
              true,
              refl,
              inl refl,
            )) ▸ tt);
            answered = (unfailed m6 refl ▸ unfailed m5 refl ▸ tt);
          };
        } ▸ tt);
        inside = lit≤ tt;
        behind = cleaners.none refl;
      };
    });
  } ▸ tt);
  at_most = lit≤ tt;
  whole = λ e. refl;
  stopped = λ e f. absurd (no_bool (sym f));
}

clients : (k : ℕ) (plan : _) (log : _) → numbered run_case.plans k ≡ Some plan → numbered book.clients k ≡ Some log
    → FollowsPlan k run_case.atrs plan (own_of book k) log
clients = both_numbered (λ k plan log. FollowsPlan k run_case.atrs plan (own_of book k) log) plans book.clients (subst (λ l. FollowsPlan 1 1 (record
    { txns = plan_1_1 ∷ [] }) l client_1) (sym own-1) client_1-follows ▸ subst (λ l. FollowsPlan 2 1 (record { txns = plan_2_1 ∷ [] }) l client_2)
    (sym own-2) client_2-follows ▸ tt)

rounds : (k n : ℕ) (log : _) → numbered run_case.rounds k ≡ Some n → numbered book.cleaners k ≡ Some log
    → cleaners.CleanerFollows (cleaner_plan run_case k n) (own_of book (length run_case.plans + k)) log
rounds = both_numbered (λ k n log. cleaners.CleanerFollows (cleaner_plan run_case k n) (own_of book (length run_case.plans + k)) log) run_case.rounds
    book.cleaners (subst (λ l. cleaners.CleanerFollows (cleaner_plan run_case 1 1) l cleaner_1) (sym own-3) cleaner_1-follows ▸ tt)

pub follow : LogsFollow run_case book
follow = record {
  clients = record { all = refl; each = clients };
  cleaners = record { all = refl; each = rounds; sweep = λ ms log is at. absurd (nothing is) };
}

attempt_1_1_1-stopped : HasCall (transactions.attempt_terms txn_1_1-terms 1000 1) made_1 0 attempt_1_1_1
unfolding attempt_1_1_1-follows
attempt_1_1_1-stopped = stopped_before_closing (transactions.attempt_terms txn_1_1-terms 1000 1) made_1 0 attempt_1_1_1 attempt_1_1_1-follows refl refl
    (inr (inl refl)) (stops.all_answered refl)

pub stops_kept : StopsKept run_case book
stops_kept = clients_stopped run_case book (within_one run_case book 1 3 refl (subst (λ l. length l ≤ 3) (sym own-1) (lit≤ tt))) refl ((λ h. (
  refl,
  subst (λ l. LastHasCall 1 1 l 0 1 (plan_1_1 ∷ []) (txn_1_1 ∷ [])) (sym own-1) (stops.in_try [] attempt_1_1_1 refl attempt_1_1_1-stopped),
)) ▸ runs_on client_2.txns refl ▸ tt)

pub after-drop : HasValue run_case book 7 doc_a (Some (n 1))
unfolding row clock_of
after-drop = (refl, refl)

pub before-commit : HasValue run_case book 12 doc_a (Some (n 1))
unfolding row clock_of
before-commit = (refl, refl)

pub after-commit : HasValue run_case book 13 doc_a (Some (n 3))
unfolding row clock_of
after-commit = (refl, table_by (noted_by walk.nothing_yet (replaces-n3 doc_a) op_2_1_1_1) doc_a (Some (n 1)))
