use Rattle.std.proofs.Common.{◌≡◌, ℕ, ◌<◌, List, length, get_or, sym, ap, ◌∙◌, arith}
use Rattle.java_heap.specs.declared.object.Object.{Object}
use Rattle.java_heap.specs.declared.object.Content.{Content}
use Rattle.java_heap.specs.Objects.{is_text, units_of}
use Rattle.java_heap.specs.Changes.{put_behind}
use Rattle.java_heap.proofs.Grown.{OnOk-follows, IfOk-follows}
use Rattle.java_heap.proofs.Between.{PutsTextOf-low, PutsTextOf-high, told-low, told-high}
use Rattle.java_heap.proofs.heap.growth.append_between.Goals as goal

pub returns-then-place-from-2-clause-grown : goal.returns-then-place-from-2-clause-grown
returns-then-place-from-2-clause-grown c =
    let s = c.split_at_mut-low in
    let mid : length s.result.0.now ≡ c.args.from = omega (arith, s.ensures.front_len, c.max.ensures, c.if-place-from-2.true) in
    let some : 0 < length s.result.1.now = omega (arith, s.ensures.back_len, c.requires.from, c.max.ensures, c.if-place-from-2.true) in
    let own = c.index-low-place in
    OnOk-follows c.append.result c.append.ensures.grown
    (λ grown.
    PutsTextOf-low c.args.objects.now s.result.0.now s.result.1.now s.ensures.value c.args.place c.args.from own.result c.index-high-0.result _ mid c.if-place-from-2.true some own.is c.index-high-0.is
    (ap (λ (o : Object). let now : Object = record o { content = c.append.new.self } in now) (sym own.is) ∙ ap (λ (content : Content). let now : Object = record own.result { content = content } in now) (grown ∙ ap (λ (units : List ℕ). put_behind units (get_or s.result.0.now c.args.place own.result).content) (c.units.ensures ∙ ap (λ (o : Object). units_of o.content) (sym c.index-high-0.is)) ∙ ap (λ (o : Object). put_behind (units_of c.index-high-0.result.content) o.content) (sym own.is))))

pub returns-then-place-from-2-clause-text : goal.returns-then-place-from-2-clause-text
returns-then-place-from-2-clause-text c =
    let s = c.split_at_mut-low in
    let mid : length s.result.0.now ≡ c.args.from = omega (arith, s.ensures.front_len, c.max.ensures, c.if-place-from-2.true) in
    let some : 0 < length s.result.1.now = omega (arith, s.ensures.back_len, c.requires.from, c.max.ensures, c.if-place-from-2.true) in
    let own = c.index-low-place in
    IfOk-follows c.append.result c.append.ensures.text
    (λ grows told was found. told ∙ ap (λ (o : Object). is_text o.content) (sym own.is) ∙ told-low c.args.objects.now s.result.0.now s.result.1.now s.ensures.value c.args.place own.result was (λ (o : Object). is_text o.content) (omega (arith, mid, c.if-place-from-2.true)) own.is found)

pub returns-else-place-from-2-clause-grown : goal.returns-else-place-from-2-clause-grown
returns-else-place-from-2-clause-grown c =
    let s = c.split_at_mut-low in
    let apart : c.args.from < c.args.place = omega (arith, c.if-place-from.false, c.if-place-from-2.false) in
    let mid : length s.result.0.now ≡ c.args.place = omega (arith, s.ensures.front_len, c.max.ensures, apart) in
    let some : 0 < length s.result.1.now = omega (arith, s.ensures.back_len, c.requires.place, c.max.ensures, apart) in
    let own = c.index-high-0-else-place-from-2 in
    OnOk-follows c.append-else-place-from-2.result c.append-else-place-from-2.ensures.grown
    (λ grown.
    PutsTextOf-high c.args.objects.now s.result.0.now s.result.1.now s.ensures.value c.args.place c.args.from own.result c.index-low-from.result _ mid apart some own.is c.index-low-from.is
    (ap (λ (o : Object). let now : Object = record o { content = c.append-else-place-from-2.new.self } in now) (sym own.is) ∙ ap (λ (content : Content). let now : Object = record own.result { content = content } in now) (grown ∙ ap (λ (units : List ℕ). put_behind units (get_or s.result.1.now 0 own.result).content) (c.units-else-place-from-2.ensures ∙ ap (λ (o : Object). units_of o.content) (sym c.index-low-from.is)) ∙ ap (λ (o : Object). put_behind (units_of c.index-low-from.result.content) o.content) (sym own.is))))

pub returns-else-place-from-2-clause-text : goal.returns-else-place-from-2-clause-text
returns-else-place-from-2-clause-text c =
    let s = c.split_at_mut-low in
    let apart : c.args.from < c.args.place = omega (arith, c.if-place-from.false, c.if-place-from-2.false) in
    let mid : length s.result.0.now ≡ c.args.place = omega (arith, s.ensures.front_len, c.max.ensures, apart) in
    let some : 0 < length s.result.1.now = omega (arith, s.ensures.back_len, c.requires.place, c.max.ensures, apart) in
    let own = c.index-high-0-else-place-from-2 in
    IfOk-follows c.append-else-place-from-2.result c.append-else-place-from-2.ensures.text
    (λ grows told was found. told ∙ ap (λ (o : Object). is_text o.content) (sym own.is) ∙ told-high c.args.objects.now s.result.0.now s.result.1.now s.ensures.value c.args.place own.result was (λ (o : Object). is_text o.content) mid some own.is found)
