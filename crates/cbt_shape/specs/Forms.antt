-- The forms of fields.
use Rattle.std.specs.Prelude.{ℕ, Bool, true, false, List, Option, Some, None}
use Rattle.std.specs.Option.{option_and_then}
use Rattle.cbt_json.specs.declared.tree.Tree.{Tree, out-Tree}
use Rattle.cbt_shape.specs.Names.{id_in, is_txn_text, atr_in}
use Rattle.cbt_shape.specs.Numbers.{whole_of, macro_in}
use Rattle.cbt_shape.specs.Objects.{text_of}

-- a text of a form
abbrev pub text_form : {A : Type 0} → (List ℕ → Option A) → Tree → Option A
text_form form t = option_and_then form (text_of (out-Tree t))

-- an identifier
abbrev pub id_form : Tree → Option ℕ
id_form t = text_form id_in t

abbrev pub where_true : Bool → Option (Unit {0})
where_true true = Some tt
where_true false = None

-- the transaction of an attempt
abbrev pub txn_form : ℕ → Tree → Option (Unit {0})
txn_form attempt t = text_form (λ text. where_true (is_txn_text attempt text)) t

-- the name of a transaction record
abbrev pub atr_form : Tree → Option ℕ
atr_form t = text_form atr_in t

-- a whole number from 0 to 2^64-1
abbrev pub whole_form : Tree → Option ℕ
whole_form t = whole_of (out-Tree t)

-- a stamp in the form of the macro
abbrev pub macro_form : Tree → Option ℕ
macro_form t = text_form macro_in t
