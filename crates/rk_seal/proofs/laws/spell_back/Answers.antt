use Rattle.std.proofs.Common.{Err}
use Rattle.tr_parts.specs.Reads.{Finds}
use Rattle.tr_parts.specs.declared.fault.CodecErr.{CodecErr}
use Rattle.tr_parts.specs.declared.fault.CodecErr.TheVariants.{Damaged, NoMemory}
use Rattle.rk_seal.proofs.laws.spell_back.Goals as goal

-- what isn't found for a fault isn't found for it whatever was sought
finds_alike : {S T : Type 0} (e : CodecErr) (x : S) (y : T) → Finds (Err e) x → Finds (Err e) y
finds_alike (Damaged it) x y h = h
finds_alike NoMemory x y h = tt

pub returns-clause-only : goal.returns-clause-only
returns-clause-only c = λ calls are e. finds_alike c.in-Err.fault calls c.args.bytes.now (c.in-Err.ensures.only calls are e)
