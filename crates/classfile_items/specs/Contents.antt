-- What attributes share: the index of their name, and their content behind its length (JVM specification 4.7).
use Rattle.std.specs.Prelude.{ℕ, ◌-◌, ◌==◌, List, length, Some, None, Ok, Err}
use Rattle.jv_names.specs.Names.{Name}
use Rattle.class_tree.specs.declared.pool.Const.{Const}
use Rattle.class_tree.specs.Tree.{text_at}
use Rattle.classfile_items.specs.declared.fault.ReadClassFault.TheVariants.{BadIndex, BadLength}
use Rattle.classfile_items.specs.Reading.{Found, ◌>>=◌, provided, offset, u2, u4, raw}

-- an index of a text of the pool, with the text
abbrev pub text_index : ℕ → List Const → List ℕ → Found (ℕ × Name)
text_index end pool bytes =
    u2 end bytes >>= λ n. elim (text_at pool n.0) [ None ↦ Err (BadIndex (offset end bytes)) | Some text ↦ Ok ((n.0, text), n.1) ]

-- a length in four bytes, and so many bytes as they stand
abbrev pub kept : {B : Type 0} → (List ℕ → B) → ℕ → List ℕ → Found B
kept wrap end bytes = u4 end bytes >>= λ len. raw end len.0 len.1 >>= λ content. Ok (wrap content.0, content.1)

-- an item that ends where the length says that it does, which stands before these bytes
abbrev pub of_length : {A : Type 0} → ℕ → ℕ → List ℕ → A × List ℕ → Found A
of_length end len bytes x = provided (length bytes - length x.1 == len) (BadLength (offset end bytes - 4)) x

-- a length in four bytes, and an item that is read by its own counts
abbrev pub measured : {A B : Type 0} → (List ℕ → Found A) → (A → B) → ℕ → List ℕ → Found B
measured item wrap end bytes = u4 end bytes >>= λ len. item len.1 >>= of_length end len.0 len.1 >>= λ v. Ok (wrap v.0, v.1)
