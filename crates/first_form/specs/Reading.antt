-- Reading a class file from left to right.
use Rattle.std.specs.Prelude.{ℕ, ◌+◌, List, [], ◌∷◌, ◌++◌, length, take, drop, Option, Some, None, ◌==◌, nat_lt, if◌then◌else◌, bytes_eq, flat_map}
use Rattle.std.specs.List.{starts_with}
use Rattle.std.specs.Bool.{nat_eq}
use Rattle.std.specs.Int.{Width, w16, w32, byte_len, from_be_bytes}
use Rattle.ti_ids.specs.Maybe.{◌>>=◌}
use Rattle.first_form.specs.ClassFiles.{spelled_constant, fixed_pool, MainClass, is_main_class}

-- what stands before the length of the name, between it and the length of the attribute Code, and behind the code
abbrev pub head : List ℕ
head = 0xca ∷ 0xfe ∷ 0xba ∷ 0xbe ∷ 0 ∷ 0 ∷ 0 ∷ 52 ∷ 0 ∷ 20 ∷ 1 ∷ []

abbrev pub middle : List ℕ
middle =
    flat_map spelled_constant fixed_pool
    ++ (0 ∷ 0x21 ∷ 0 ∷ 2 ∷ 0 ∷ 4 ∷ 0 ∷ 0 ∷ 0 ∷ 0 ∷ 0 ∷ 1 ∷ 0 ∷ 9 ∷ 0 ∷ 5 ∷ 0 ∷ 6 ∷ 0 ∷ 1 ∷ 0 ∷ 7 ∷ [])

abbrev pub sizes : List ℕ
sizes = 0 ∷ 3 ∷ 0 ∷ 1 ∷ []

abbrev pub tail : List ℕ
tail = 0 ∷ 0 ∷ 0 ∷ 0 ∷ 0 ∷ 0 ∷ []

-- the bytes after a front
unfoldable pub after : List ℕ → List ℕ → Option (List ℕ)
after front bytes = if starts_with nat_eq bytes front then Some (drop (length front) bytes) else None

-- a number, and the bytes after it
unfoldable pub number_at : Width → List ℕ → Option (ℕ × List ℕ)
number_at w bytes = if nat_lt (length bytes) (byte_len w) then None else Some (from_be_bytes w (take (byte_len w) bytes), drop (byte_len w) bytes)

-- a length, so many bytes, and the bytes after them
unfoldable pub counted_at : Width → List ℕ → Option (List ℕ × List ℕ)
counted_at w bytes = do
  n ← number_at w bytes
  if nat_lt (length n.1) n.0 then None else Some (take n.0 n.1, drop n.0 n.1)

-- the name and the code, where all else is as it must be
unfoldable pub name_and_code : List ℕ → Option (List ℕ × List ℕ)
name_and_code bytes = do
  a ← after head bytes
  name ← counted_at w16 a
  b ← after middle name.1
  size ← number_at w32 b
  c ← after sizes size.1
  code ← counted_at w32 c
  if bytes_eq code.1 tail then (if size.0 == length code.0 + 12 then Some (name.0, code.0) else None) else None

-- the class that the bytes spell, or none
unfoldable pub class_of : List ℕ → Option MainClass
class_of bytes = do
  c ← name_and_code bytes
  let d : MainClass = record { name = c.0; code = c.1 } in if is_main_class d then Some d else None
