use Rattle.std.proofs.Common.{◌≡◌, ℕ, ◌≤◌, List, length, drop, sym, ap, ◌∙◌, arith}
use Rattle.std.proofs.lemmas.List.{at_drop_all}
use Rattle.sh_ast.specs.declared.command.Redirect.{Redirect}
use Rattle.sh_redirect.specs.declared.descriptors.DescriptorTable.{DescriptorTable}
use Rattle.sh_redirect.specs.DescriptorTable.{put_back}
use Rattle.sh_compound.proofs.Named.{described, named_is}
use Rattle.sh_compound.proofs.undoing.put_slots_back.Goals as goal

all_back : (rs : List Redirect) (i : ℕ) (before old now : DescriptorTable) → length rs ≤ i → put_back (described (drop i rs)) before now ≡ put_back (described rs) before old → now ≡ put_back (described rs) before old
all_back rs i before old now h so = sym (at_drop_all (λ (rs : List Redirect). put_back (described rs) before now) rs i h) ∙ so

pub returns : goal.returns
returns c =
    all_back c.deref-r-items.result.now c.redirects.r-index c.args.before.now c.args.now.now c.redirects.now (omega arith) c.redirects.invariant
    ∙ ap (λ (ds : List ℕ). put_back ds c.args.before.now c.args.now.now) (ap described c.deref-r-items.ensures.value ∙ sym (named_is c.args.redirects.now))
