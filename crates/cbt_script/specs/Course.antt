-- How a script's run is to go: the cleaners, stops, failing calls, the order and the sweep.
use Rattle.std.specs.Prelude.{ℕ, ◌+◌, ◌*◌, ◌==◌, ◌&&◌, not, is_none, is_some, nat_lt, nat_le, if◌then◌else◌, List, [], ◌∷◌, ◌++◌, length, Option, Some, None, Result, Ok, Err, codes, bytes_eq}
use Rattle.std.specs.List.{before_first, after_first, position_or_len}
use Rattle.std.specs.Ordering.{nat_cmp}
use Rattle.cbt_base.specs.Keyed.{at_key, with_pair}
use Rattle.cbt_lex.specs.Lines.{skip_spaces}
use Rattle.cbt_lex.specs.Names.{is_name}
use Rattle.cbt_lex.specs.Words.{words_of}
use Rattle.cbt_model.specs.Faults.{call_cmp}
use Rattle.cbt_model.specs.Keys.{doc_cmp}
use Rattle.cbt_model.specs.declared.events.Fate.{Fate}
use Rattle.cbt_model.specs.declared.events.Item.{Item}
use Rattle.cbt_model.specs.declared.events.Item.TheVariants as item
use Rattle.cbt_script.specs.declared.cause.Cause.{Cause}
use Rattle.cbt_script.specs.declared.cause.Cause.TheVariants.{Form, Name, Unknown, Twice, Limit}
use Rattle.cbt_script.specs.declared.course.Course.{Course}
use Rattle.cbt_script.specs.Causes.{◌>>=◌, require}
use Rattle.cbt_script.specs.Fields.{actor_field, number_in, number_field, end_field}
use Rattle.cbt_script.specs.Settings.{max_ms}

abbrev pub no_course : Course
no_course = record { cleaners = []; passes = 0; stops = []; faults = record { fates = [] }; order = []; sweep = None }

-- ---- actors

-- the numbers of actors by their names
abbrev pub Actors : Type 0
Actors = List (List ℕ × ℕ)

-- a further actor, with the next number
abbrev pub with_actor : List ℕ → Actors → Actors
with_actor name actors = with_pair doc_cmp actors name (length actors + 1)

abbrev pub known : Option ℕ → Result ℕ Cause
known (Some n) = Ok n
known None = Err Unknown

-- the number of the actor with this name
abbrev pub known_actor : Actors → List ℕ → Result ℕ Cause
known_actor actors name = known (at_key doc_cmp actors name)

-- ---- cleaners, stops and failing calls

-- `cleaner NAME ROUNDS`, over so many records
unfoldable pub add_cleaner : ℕ → Actors → Course → List ℕ → Result (Actors × Course) Cause
add_cleaner atrs actors c rest = do
  name ← actor_field rest
  _ ← require (not (is_some (at_key doc_cmp actors name.0))) Twice
  rounds ← number_field 1 65536 name.1
  _ ← end_field rounds.1
  _ ← require (nat_lt (length c.cleaners) 16 && nat_le (c.passes + rounds.0 * atrs) 65536) Limit
  Ok (with_actor name.0 actors, record c { cleaners = c.cleaners ++ (name.0, rounds.0) ∷ []; passes = c.passes + rounds.0 * atrs })

-- `stop NAME K`
unfoldable pub add_stop : Actors → Course → List ℕ → Result Course Cause
add_stop actors c rest = do
  name ← actor_field rest
  actor ← known_actor actors name.0
  _ ← require (not (is_some (at_key nat_cmp c.stops actor))) Twice
  call ← number_field 0 1000000 name.1
  _ ← end_field call.1
  Ok (record c { stops = with_pair nat_cmp c.stops actor call.0 })

-- `lost NAME K` or `late NAME K`
unfoldable pub add_fault : Fate → Actors → Course → List ℕ → Result Course Cause
add_fault fate actors c rest = do
  name ← actor_field rest
  actor ← known_actor actors name.0
  call ← number_field 1 1000000 name.1
  _ ← require (not (is_some (at_key call_cmp c.faults.fates (actor, call.0)))) Twice
  _ ← end_field call.1
  Ok (record c { faults = record { fates = with_pair call_cmp c.faults.fates (actor, call.0) fate } })

-- ---- the order

-- the text before the first byte b and the text behind it, where there is such a byte
abbrev pub parted_by : ℕ → List ℕ → Option (List ℕ × List ℕ)
parted_by b text =
    if nat_lt (position_or_len (λ x. x == b) text) (length text)
    then Some (before_first (λ x. x == b) text, after_first (λ x. x == b) text)
    else None

-- the number of the actor that a word names
unfoldable pub named_actor : Actors → List ℕ → Result ℕ Cause
named_actor actors name = do
  _ ← require (is_name name && not (bytes_eq name (codes "sweep"))) Name
  known_actor actors name

-- `NAME`: one call
unfoldable pub one_call_of : Actors → List ℕ → Result Item Cause
one_call_of actors name = do
  actor ← named_actor actors name
  Ok (item.Calls actor 1)

-- `NAME*`: all calls
unfoldable pub all_calls_of : Actors → List ℕ → Result Item Cause
all_calls_of actors name = do
  actor ← named_actor actors name
  Ok (item.All actor)

-- `NAME*K`: up to K calls
unfoldable pub some_calls_of : Actors → List ℕ → List ℕ → Result Item Cause
some_calls_of actors name count = do
  actor ← named_actor actors name
  k ← number_in 1 1000000 count
  Ok (item.Calls actor k)

-- `+MS`: the clock moves ahead
unfoldable pub ahead_of : List ℕ → Result Item Cause
ahead_of ms = do
  n ← number_in 0 max_ms ms
  Ok (item.Ahead n)

abbrev pub counted_calls : Actors → List ℕ → Option (List ℕ × List ℕ) → Result Item Cause
counted_calls actors word None = one_call_of actors word
counted_calls actors word (Some parts) = if length parts.1 == 0 then all_calls_of actors parts.0 else some_calls_of actors parts.0 parts.1

-- calls of an actor
abbrev pub calls_of : Actors → List ℕ → Result Item Cause
calls_of actors word = counted_calls actors word (parted_by 42 word)

abbrev pub led_by_plus : Option (List ℕ × List ℕ) → Result Item Cause → Result Item Cause
led_by_plus (Some parts) other = if length parts.0 == 0 then ahead_of parts.1 else other
led_by_plus None other = other

-- the item that a word is
abbrev pub item_of : Actors → List ℕ → Result Item Cause
item_of actors word = led_by_plus (parted_by 43 word) (calls_of actors word)

-- a further item
unfoldable pub add_item : Actors → Course → List ℕ → Result Course Cause
add_item actors c word = do
  i ← item_of actors word
  Ok (record c { order = c.order ++ i ∷ [] })

-- further items, in the order of their words
abbrev pub add_items : Actors → Course → List (List ℕ) → Result Course Cause
add_items actors c [] = Ok c
add_items actors c (word ∷ words) = add_item actors c word >>= (λ d. add_items actors d words)

abbrev pub some_items : Actors → Course → List ℕ → Result Course Cause
some_items actors c text = if length text == 0 then Err Form else add_items actors c (words_of text)

-- `order ITEM ITEM`, one item at least
abbrev pub add_order : Actors → Course → List ℕ → Result Course Cause
add_order actors c rest = some_items actors c (skip_spaces rest)

-- ---- the sweep

-- `sweep MS`
unfoldable pub set_sweep : Course → List ℕ → Result Course Cause
set_sweep c rest = do
  _ ← require (is_none c.sweep) Twice
  ms ← number_field 0 max_ms rest
  _ ← end_field ms.1
  Ok (record c { sweep = Some ms.0 })
