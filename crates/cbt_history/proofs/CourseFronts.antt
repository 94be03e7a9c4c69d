-- The lines of cleaners, stops and failing calls, cut off: those of fewer of them.
use Rattle.std.proofs.Common.{◌≡◌, ℕ, ◌≤◌, List, [], ◌∷◌, ◌++◌, length, map, codes, decimal, Ordering, Less, refl, ap, arith}
use Rattle.std.specs.List.{All, AllByRecursion}
use Rattle.std.specs.List.Sorted.{IsStrictlySortedBy}
use Rattle.std.specs.Map.{keys_of}
use Rattle.std.specs.Ordering.{nat_cmp}
use Rattle.std.proofs.lemmas.List.Elements.{All-nil, All-cons, All-head, All-tail}
use Rattle.cbt_model.specs.Faults.{call_cmp}
use Rattle.cbt_model.specs.declared.events.Fate.{Fate}
use Rattle.cbt_model.specs.declared.events.Fate.TheVariants.{Plain, Lost, Late}
use Rattle.cbt_script.specs.declared.script.Script.{Script}
use Rattle.cbt_script.specs.Printed.{cleaner_lines, fault_line, stop_lines, fault_lines}
use Rattle.cbt_script.specs.Rules.{IsCleaner, IsStop, IsFault, rounds_of}
use Rattle.cbt_history.proofs.Fronts.{Lines, Fronts, weaker}

-- ---- cleaners

abbrev pub Cleaner : Type 0
Cleaner = List ℕ × ℕ

abbrev pub cleaner_names : List Cleaner → Lines
cleaner_names cleaners = map (λ c. c.0) cleaners

pub record CleanersCut (all : List Cleaner) (front : Lines) : Type 0 where
  pub cleaners : List Cleaner
  pub are : All IsCleaner cleaners
  pub few : length cleaners ≤ length all
  pub rounds : rounds_of cleaners ≤ rounds_of all
  pub others : Lines
  pub names : cleaner_names all ≡ cleaner_names cleaners ++ others
  pub lines : cleaner_lines cleaners ≡ front

pub cleaners_cut : (all : List Cleaner) → All IsCleaner all → Fronts (CleanersCut all) (cleaner_lines all)
cleaners_cut [] are = tt
cleaners_cut (cleaner ∷ all) are =
    let line = codes "cleaner " ++ cleaner.0 ++ codes " " ++ decimal cleaner.1 in (
      record { cleaners = []; are = All-nil IsCleaner; few = omega arith; rounds = omega arith; others = cleaner_names (cleaner ∷ all); names = refl; lines = refl },
      weaker (CleanersCut all) (λ l. CleanersCut (cleaner ∷ all) (line ∷ l)) (cleaner_lines all)
          (λ l c. (let few : length c.cleaners ≤ length all = c.few in let rounds : rounds_of c.cleaners ≤ rounds_of all = c.rounds in
          record {
            cleaners = cleaner ∷ c.cleaners;
            are = All-cons IsCleaner cleaner c.cleaners (All-head IsCleaner cleaner all are) c.are;
            few = omega arith;
            rounds = omega arith;
            others = c.others;
            names = ap (λ ls. cleaner.0 ∷ ls) c.names;
            lines = ap (λ ls. line ∷ ls) c.lines;
          }))
          (cleaners_cut all (All-tail IsCleaner cleaner all are)),
    )

-- ---- maps whose keys rise

-- keys that stand behind all keys before a map stand behind those before a part of it
abbrev StayAbove : {K V : Type 0} → (K → K → Ordering) → List (K × V) → List (K × V) → Type 0
StayAbove {K} cmp part all = (k : K) → AllByRecursion (λ y. cmp k y ≡ Less) (keys_of all) → AllByRecursion (λ y. cmp k y ≡ Less) (keys_of part)

-- ---- stops

module _ (s : Script) where
  pub record StopsCut (all : List (ℕ × ℕ)) (front : Lines) : Type 0 where
    pub stops : List (ℕ × ℕ)
    pub are : All (IsStop s) stops
    pub rise : IsStrictlySortedBy nat_cmp (keys_of stops)
    pub above : StayAbove nat_cmp stops all
    pub lines : stop_lines s stops ≡ front

  pub stops_cut : (all : List (ℕ × ℕ)) → All (IsStop s) all → IsStrictlySortedBy nat_cmp (keys_of all) → Fronts (StopsCut all) (stop_lines s all)
  unfolding IsStrictlySortedBy
  stops_cut [] are rise = tt
  stops_cut (stop ∷ all) are rise =
      let line = fault_line (codes "stop ") s stop.0 stop.1 in (
        record { stops = []; are = All-nil (IsStop s); rise = tt; above = λ k up. tt; lines = refl },
        weaker (StopsCut all) (λ l. StopsCut (stop ∷ all) (line ∷ l)) (stop_lines s all)
            (λ l c. record {
              stops = stop ∷ c.stops;
              are = All-cons (IsStop s) stop c.stops (All-head (IsStop s) stop all are) c.are;
              rise = (c.above stop.0 rise.0, c.rise);
              above = λ k up. (up.0, c.above k up.1);
              lines = ap (λ ls. line ∷ ls) c.lines;
            })
            (stops_cut all (All-tail (IsStop s) stop all are) rise.1),
      )

  -- ---- failing calls

  abbrev pub Fates : Type 0
  Fates = List ((ℕ × ℕ) × Fate)

  -- some of the failing calls, of which these are the lines
  pub record FatesCut (all : Fates) (lost late : Lines) : Type 0 where
    pub fates : Fates
    pub are : All (IsFault s) fates
    pub rise : IsStrictlySortedBy call_cmp (keys_of fates)
    pub above : StayAbove call_cmp fates all
    pub lost_lines : fault_lines Lost s fates ≡ lost
    pub late_lines : fault_lines Late s fates ≡ late

  no_fates : (all : Fates) → FatesCut all [] []
  unfolding IsStrictlySortedBy
  no_fates all = record { fates = []; are = All-nil (IsFault s); rise = tt; above = λ k up. tt; lost_lines = refl; late_lines = refl }

  module _ (key : ℕ × ℕ) (all : Fates) where
    abbrev lost_line : List ℕ
    lost_line = fault_line (codes "lost ") s key.0 key.1

    abbrev late_line : List ℕ
    late_line = fault_line (codes "late ") s key.0 key.1

    -- without this call
    passed : (which : Fate) (lost late : Lines) → FatesCut all lost late → FatesCut ((key, which) ∷ all) lost late
    unfolding IsStrictlySortedBy
    passed which lost late c = record { fates = c.fates; are = c.are; rise = c.rise; above = λ k up. c.above k up.1; lost_lines = c.lost_lines; late_lines = c.late_lines }

    with_lost : IsFault s (key, Lost) → AllByRecursion (λ y. call_cmp key y ≡ Less) (keys_of all) → (lost late : Lines) → FatesCut all lost late
        → FatesCut ((key, Lost) ∷ all) (lost_line ∷ lost) late
    unfolding IsStrictlySortedBy
    with_lost is up lost late c = record {
      fates = (key, Lost) ∷ c.fates;
      are = All-cons (IsFault s) (key, Lost) c.fates is c.are;
      rise = (c.above key up, c.rise);
      above = λ k behind. (behind.0, c.above k behind.1);
      lost_lines = ap (λ ls. lost_line ∷ ls) c.lost_lines;
      late_lines = c.late_lines;
    }

    with_late : IsFault s (key, Late) → AllByRecursion (λ y. call_cmp key y ≡ Less) (keys_of all) → (lost late : Lines) → FatesCut all lost late
        → FatesCut ((key, Late) ∷ all) lost (late_line ∷ late)
    unfolding IsStrictlySortedBy
    with_late is up lost late c = record {
      fates = (key, Late) ∷ c.fates;
      are = All-cons (IsFault s) (key, Late) c.fates is c.are;
      rise = (c.above key up, c.rise);
      above = λ k behind. (behind.0, c.above k behind.1);
      lost_lines = c.lost_lines;
      late_lines = ap (λ ls. late_line ∷ ls) c.late_lines;
    }

  -- lost calls alone
  abbrev pub LostCut : Fates → Lines → Type 0
  LostCut all l = FatesCut all l []

  -- all lost calls, and late ones
  abbrev pub LateCut : Fates → Lines → Type 0
  LateCut all l = FatesCut all (fault_lines Lost s all) l

  lost_step : (key : ℕ × ℕ) (fate : Fate) (all : Fates) → IsFault s (key, fate) → AllByRecursion (λ y. call_cmp key y ≡ Less) (keys_of all)
      → Fronts (LostCut all) (fault_lines Lost s all) → Fronts (LostCut ((key, fate) ∷ all)) (fault_lines Lost s ((key, fate) ∷ all))
  lost_step key Plain all is up more = absurd (is.2 refl)
  lost_step key Lost all is up more =
      (no_fates ((key, Lost) ∷ all), weaker (LostCut all) (λ l. LostCut ((key, Lost) ∷ all) (lost_line key all ∷ l)) (fault_lines Lost s all) (λ l c. with_lost key all is up l [] c) more)
  lost_step key Late all is up more = weaker (LostCut all) (LostCut ((key, Late) ∷ all)) (fault_lines Lost s all) (λ l c. passed key all Late l [] c) more

  pub lost_cut : (all : Fates) → All (IsFault s) all → IsStrictlySortedBy call_cmp (keys_of all) → Fronts (LostCut all) (fault_lines Lost s all)
  unfolding IsStrictlySortedBy
  lost_cut [] are rise = tt
  lost_cut (fault ∷ all) are rise =
      lost_step fault.0 fault.1 all (All-head (IsFault s) fault all are) rise.0 (lost_cut all (All-tail (IsFault s) fault all are) rise.1)

  none_late_step : (key : ℕ × ℕ) (fate : Fate) (all : Fates) → IsFault s (key, fate) → AllByRecursion (λ y. call_cmp key y ≡ Less) (keys_of all) → LateCut all [] → LateCut ((key, fate) ∷ all) []
  none_late_step key Plain all is up c = absurd (is.2 refl)
  none_late_step key Lost all is up c = with_lost key all is up (fault_lines Lost s all) [] c
  none_late_step key Late all is up c = passed key all Late (fault_lines Lost s all) [] c

  none_late : (all : Fates) → All (IsFault s) all → IsStrictlySortedBy call_cmp (keys_of all) → LateCut all []
  unfolding IsStrictlySortedBy
  none_late [] are rise = no_fates []
  none_late (fault ∷ all) are rise =
      none_late_step fault.0 fault.1 all (All-head (IsFault s) fault all are) rise.0 (none_late all (All-tail (IsFault s) fault all are) rise.1)

  late_step : (key : ℕ × ℕ) (fate : Fate) (all : Fates) → IsFault s (key, fate) → AllByRecursion (λ y. call_cmp key y ≡ Less) (keys_of all) → LateCut all []
      → Fronts (LateCut all) (fault_lines Late s all) → Fronts (LateCut ((key, fate) ∷ all)) (fault_lines Late s ((key, fate) ∷ all))
  late_step key Plain all is up none more = absurd (is.2 refl)
  late_step key Lost all is up none more =
      weaker (LateCut all) (LateCut ((key, Lost) ∷ all)) (fault_lines Late s all) (λ l c. with_lost key all is up (fault_lines Lost s all) l c) more
  late_step key Late all is up none more = (
    passed key all Late (fault_lines Lost s all) [] none,
    weaker (LateCut all) (λ l. LateCut ((key, Late) ∷ all) (late_line key all ∷ l)) (fault_lines Late s all) (λ l c. with_late key all is up (fault_lines Lost s all) l c) more,
  )

  pub late_cut : (all : Fates) → All (IsFault s) all → IsStrictlySortedBy call_cmp (keys_of all) → Fronts (LateCut all) (fault_lines Late s all)
  unfolding IsStrictlySortedBy
  late_cut [] are rise = tt
  late_cut (fault ∷ all) are rise =
      let tail = All-tail (IsFault s) fault all are in
      late_step fault.0 fault.1 all (All-head (IsFault s) fault all are) rise.0 (none_late all tail rise.1) (late_cut all tail rise.1)
