-- Identifiers of documents, attempts, transactions and cleaners, their texts, and the place of an attempt's record.
use Rattle.std.specs.Prelude.{◌≡◌, ℕ, ◌+◌, ◌-◌, ◌*◌, ◌%◌, ◌^◌, Bool, List, Option, Some, None, Result, Ok, Err, if◌then◌else◌, nat_lt, nat_eq, ◌==◌, ◌&&◌, not, length, position, fold, bit_xor, codes}
use Rattle.std.specs.List.{starts_with}
use Rattle.std.specs.Int.{to_be_bytes, w128}
use Rattle.uuid.specs.Text.{hyphenated_text, lower}
use Rattle.cbt_base.specs.declared.doc_id.IdFault.{IdFault}
use Rattle.cbt_base.specs.declared.doc_id.IdFault.TheVariants.{Empty, TooLong, BadByte, Reserved}

-- a byte that may stand in a document's identifier: no control byte, no space, not 0x7f
abbrev pub is_id_byte : ℕ → Bool
is_id_byte b = nat_lt 32 b && not (b == 127)

-- what a document's identifier may not begin with
abbrev pub reserved_prefix : List ℕ
reserved_prefix = codes "_txn:"

-- what is wrong with a text of no bad byte
abbrev pub prefix_fault : List ℕ → Option IdFault
prefix_fault text = if starts_with nat_eq text reserved_prefix then Some Reserved else None

-- the first bad byte of a text, or what else is wrong
abbrev pub byte_fault : Option ℕ → List ℕ → Option IdFault
byte_fault (Some at) text = Some (BadByte at)
byte_fault None text = prefix_fault text

-- what is wrong with a text as a document's identifier, in the order of the tests
abbrev pub id_fault : List ℕ → Option IdFault
id_fault text =
    if length text == 0 then Some Empty
    else (if nat_lt 250 (length text) then Some (TooLong (length text))
    else byte_fault (position (λ b. not (is_id_byte b)) text) text)

-- a text, unless it has a fault
abbrev pub ok_unless : Option IdFault → List ℕ → Result (List ℕ) IdFault
ok_unless None text = Ok text
ok_unless (Some fault) text = Err fault

-- a text that is a document's identifier
abbrev pub IsDocId : List ℕ → Type 0
IsDocId text = id_fault text ≡ None

-- what a text is as a document's identifier: itself, or its fault
abbrev pub doc_id_of : List ℕ → Result (List ℕ) IdFault
doc_id_of text = ok_unless (id_fault text) text

-- an owner and a transaction's number, with a UUID's version and variant between them
abbrev pub owner_fields : ℕ → ℕ → ℕ
owner_fields owner txn = owner * 2 ^ 96 + txn * 2 ^ 80 + 8 * 2 ^ 76 + 2 ^ 63

-- the attempt of a client's transaction with this number
abbrev pub attempt_number : ℕ → ℕ → ℕ → ℕ
attempt_number client txn try_no = owner_fields client txn + try_no

-- the transaction of an attempt: its low 32 bits are zero
abbrev pub txn_number : ℕ → ℕ
txn_number attempt = attempt - attempt % 2 ^ 32

-- the cleaner with this number
abbrev pub cleaner_number : ℕ → ℕ
cleaner_number n = owner_fields n 0

-- an identifier as text: its sixteen bytes, the high one first, in a UUID's hyphenated form and in lower case
abbrev pub id_text : ℕ → List ℕ
id_text n = hyphenated_text lower (to_be_bytes w128 n)

-- the 64-bit FNV-1a hash of bytes
abbrev pub fnv_1a : List ℕ → ℕ
fnv_1a bytes = fold (λ hash byte. (bit_xor hash byte * 1099511628211) % 2 ^ 64) 14695981039346656037 bytes
