-- Calls of builtins, which name descriptors as the shell does.
use Rattle.std.specs.Prelude.{Option, Some, option_map}
use Rattle.rk_calls.specs.declared.call.Call.{Call}
use Rattle.rk_calls.specs.declared.call.Call.TheVariants.{Write, ReadLine}
use Rattle.sh_redirect.specs.declared.descriptors.DescriptorTable.{DescriptorTable}
use Rattle.sh_redirect.specs.DescriptorTable.{slot}

-- on the local number that the map has for it, or none where it lacks it
abbrev pub through : Call → DescriptorTable → Option Call
through (Write d bytes) ds = option_map (λ n. Write n bytes) (slot ds d)
through (ReadLine d) ds = option_map (λ n. ReadLine n) (slot ds d)
through call ds = Some call
