use Rattle.std.proofs.Common.{◌≡◌, ◌+◌, ◌-◌, ◌*◌, ◌/◌, ◌%◌, ◌^◌, ◌<◌, ◌≤◌, ℕ, length, vec_len, slice_index, refl, ◌∙◌, arith}
use Rattle.std.specs.Prelude.{bit_or}
use Rattle.std.specs.Vec.{with_item}
use Rattle.std.proofs.lemmas.List.{get_or_default}
use Rattle.ut_places.proofs.BitLemmas.{inserted}
use Rattle.ut_places.proofs.places.Places.insert.Goals as goal

pub returns : goal.returns
returns c =
    let ws = c.lengthen.new.words in
    let place = c.args.place in
    let begun = c.begin.new.self in
    let low : begun.before ≤ place / 64 = c.in_ok-begin.ensures.before in
    let i : ℕ = place / 64 - begun.before in
    let count : place / 64 - begun.before + 1 ≤ vec_len ws = c.in_ok-lengthen.ensures.count in
    let within : place / 64 - begun.before < length ws.items = omega (arith, ws.ok.0) in
    let read : c.index_mut.result.now ≡ slice_index ws.items i = c.index_mut.ensures.value ∙ get_or_default ws.items i c.index_mut.result.now 0 within in
    inserted c.args.self.now begun (record { before = begun.before; words = with_item ws (place / 64 - begun.before) (bit_or c.index_mut.result.now (1 * 2 ^ (place % 64) % 2 ^ 64)) }) ws.items place i c.index_mut.result.now low refl within read refl refl c.in_ok-lengthen.ensures.same c.in_ok-begin.ensures.same
