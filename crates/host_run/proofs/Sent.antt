-- A text that is sent piece by piece.
use Rattle.std.proofs.Common.{◌≡◌, ◌∙◌, ◌≤◌, ◌<◌, ◌+◌, ◌-◌, ℕ, List, ◌++◌, length, take, drop, Option, Some, None, sym, ap, arith, append_assoc}
use Rattle.std.proofs.lemmas.List.{take_all, length-drop}
use Rattle.std.proofs.Math.Seq.{take-add}
use Rattle.ti_port.specs.Port.{Told}

-- what is left of the text, as the piece that is put
whole_rest : (text : List ℕ) (sent : ℕ) → take (length text - sent) (drop sent text) ≡ drop sent text
whole_rest text sent = take_all (length text - sent) (drop sent text) (omega (arith, length-drop sent text))

two_takes : (text : List ℕ) (sent n : ℕ) → take sent text ++ take n (take (length text - sent) (drop sent text)) ≡ take (sent + n) text
two_takes text sent n = ap (λ (w : List ℕ). take sent text ++ take n w) (whole_rest text sent) ∙ sym (take-add sent n text)

-- a put took the next n bytes
pub told_more : (text : List ℕ) (sent n : ℕ) (a b c : Option (List ℕ)) → Told (λ before now. now ≡ before ++ take sent text) a b
    → Told (λ before now. now ≡ before ++ take n (take (length text - sent) (drop sent text))) b c → Told (λ before now. now ≡ before ++ take (sent + n) text) a c
told_more text sent n None None None h k = tt
told_more text sent n None None (Some z) h k = absurd k
told_more text sent n None (Some y) c h k = absurd h
told_more text sent n (Some x) None c h k = absurd h
told_more text sent n (Some x) (Some y) None h k = absurd k
told_more text sent n (Some x) (Some y) (Some z) h k =
    k ∙ ap (λ (w : List ℕ). w ++ take n (take (length text - sent) (drop sent text))) h ∙ append_assoc x (take sent text) (take n (take (length text - sent) (drop sent text))) ∙ ap (λ (w : List ℕ). x ++ w) (two_takes text sent n)

pub within_more : (text : List ℕ) (sent n : ℕ) → n ≤ length (take (length text - sent) (drop sent text)) → sent < length text → sent + n ≤ length text
within_more text sent n h lt = omega (arith, length-drop sent text, ap (λ (w : List ℕ). length w) (whole_rest text sent))
