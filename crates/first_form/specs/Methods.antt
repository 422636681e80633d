-- The methods of a class file and their code: JVM specification 4.6 and 4.7.3.
use Rattle.std.specs.Prelude.{ℕ, List, [], ◌∷◌, Option, Some, None, find, Bool, false, ◌&&◌, bytes_eq}
use Rattle.ti_ids.specs.Maybe.{◌>>=◌}
use Rattle.jv_names.specs.Names.{Name}
use Rattle.first_form.specs.ClassFiles.{ClassFile, Member, Attribute, Code, Raw, Body, text_at}

abbrev pub is_text : Name → Option Name → Bool
is_text name None = false
is_text name (Some text) = bytes_eq text name

abbrev pub is_named : ClassFile → Name → Name → Member → Bool
is_named c name descriptor m = is_text name (text_at c m.name) && is_text descriptor (text_at c m.descriptor)

-- the first method of that name and descriptor
abbrev pub method_named : ClassFile → Name → Name → Option Member
method_named c name descriptor = find (is_named c name descriptor) c.methods

abbrev pub body_among : List Attribute → Option Body
body_among [] = None
body_among (Code name body ∷ attributes) = Some body
body_among (Raw name bytes ∷ attributes) = body_among attributes

-- the bytes of its code
abbrev pub code_named : ClassFile → Name → Name → Option (List ℕ)
code_named c name descriptor = do
  m ← method_named c name descriptor
  body ← body_among m.attributes
  Some body.code
