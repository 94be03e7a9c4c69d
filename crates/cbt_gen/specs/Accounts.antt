-- The accounts, which are documents with an amount `n`.
use Rattle.std.specs.Prelude.{ℕ, zero, suc, ◌+◌, pos, List, [], ◌∷◌, ◌++◌, codes}
use Rattle.cbt_json.specs.declared.tree.Tree.{Tree}
use Rattle.cbt_json.specs.declared.tree.Tree.TheVariants as tree
use Rattle.cbt_gen.specs.Names.{account_id, owner_name}

-- an object of one member
abbrev pub object_of : List ℕ → Tree → Tree
object_of name value = tree.Object ((name, value) ∷ [])

-- `{"n":1000}`
abbrev pub first_body : Tree
first_body = object_of (codes "n") (tree.Whole (pos 1000))

-- `{"_kept":{"no":NUMBER},"owner":OWNER}`
abbrev pub attributes_of : ℕ → Tree
attributes_of number = tree.Object
    ((codes "_kept", object_of (codes "no") (tree.Whole (pos number)))
    ∷ (codes "owner", tree.Text (owner_name number))
    ∷ [])

-- an account's document with its body and its attributes
abbrev pub account : ℕ → List ℕ × Tree × Tree
account number = (account_id number, first_body, attributes_of number)

-- the accounts from 1 to a number
abbrev pub accounts_to : ℕ → List (List ℕ × Tree × Tree)
accounts_to zero = []
accounts_to (suc n) = accounts_to n ++ account (n + 1) ∷ []
