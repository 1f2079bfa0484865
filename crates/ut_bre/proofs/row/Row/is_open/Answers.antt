use Rattle.std.proofs.Common.{◌≡◌, ℕ, ◌-◌, ◌*◌, ◌/◌, ◌%◌, ◌^◌, ◌<◌, ◌≤◌, List, length, Bool, sym, ap, ◌∙◌, arith}
use Rattle.std.specs.Prelude.{◌==◌}
use Rattle.std.proofs.lemmas.List.{get_or_read}
use Rattle.ut_bre.specs.Rows.{is_open}
use Rattle.ut_bre.proofs.BitLemmas.{row-at, row-last, row-past}
use Rattle.ut_bre.proofs.row.Row.is_open.Goals as goal

pub returns-then-far-len : goal.returns-then-far-len
returns-then-far-len c =
    let r = c.self.inside in
    let far = c.args.far in
    let lt : far / 8 < length r.bytes.items = omega arith in
    let byte = get_or_read r.bytes.items _ _ lt c.index.ensures 0 in
    c.is_bit.ensures ∙ (ap (λ (b : ℕ). b / 2 ^ (7 - far % 8) % 2 == 1) byte ∙ (sym (row-at r.bytes.items r.count r.last far lt) ∙ ap (λ (xs : List Bool). is_open xs far) c.self.view_is))

pub returns-then-left-self : goal.returns-then-left-self
returns-then-left-self c =
    let r = c.self.inside in
    let far = c.args.far in
    let le : 8 * length r.bytes.items ≤ far = omega arith in
    let lt : far - 8 * length r.bytes.items < r.count = omega arith in
    let size : c.len-2.result ≡ length r.bytes.items = omega arith in
    c.is_bit-then-left-self.ensures ∙ (ap (λ (n : ℕ). r.last / 2 ^ (r.count - 1 - (far - 8 * n)) % 2 == 1) size ∙ (sym (row-last r.bytes.items r.count r.last far le lt) ∙ ap (λ (xs : List Bool). is_open xs far) c.self.view_is))

pub returns : goal.returns
returns c =
    let r = c.self.inside in
    let far = c.args.far in
    let le : 8 * length r.bytes.items ≤ far = omega arith in
    let past : r.count ≤ far - 8 * length r.bytes.items = omega arith in
    sym (row-past r.bytes.items r.count r.last far le past) ∙ ap (λ (xs : List Bool). is_open xs far) c.self.view_is
