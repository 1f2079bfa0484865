-- What the fault of a part is of the whole.
use Rattle.tr_parts.specs.declared.fault.PartErr.{PartErr}
use Rattle.tr_parts.specs.declared.fault.PartErr.TheVariants.{Form, NoMemory}
use Rattle.tr_parts.specs.declared.fault.Damage.TheVariants as damage
use Rattle.tr_parts.specs.declared.fault.CodecErr.{CodecErr}
use Rattle.tr_parts.specs.declared.fault.CodecErr.TheVariants as fault

abbrev pub whole : PartErr → CodecErr
whole Form = fault.Damaged damage.Form
whole NoMemory = fault.NoMemory
