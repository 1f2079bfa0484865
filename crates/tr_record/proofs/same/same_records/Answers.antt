use Rattle.std.proofs.Common.{◌≡◌, ◌≤◌, length, refl, arith, rules}
use Rattle.std.proofs.lemmas.List.{same_lists}
use Rattle.tr_record.proofs.same.same_records.Goals as goal

pub returns : goal.returns
returns c =
    let n : length c.args.a.now ≡ length c.args.b.now = first_of (omega arith, search rules) in
    let past : length c.args.a.now ≤ c.records.i = first_of (omega arith, search rules) in
    (λ t. same_lists c.args.a.now c.args.b.now n (λ k d h. c.records.invariant k d (omega arith)), λ e. refl)
