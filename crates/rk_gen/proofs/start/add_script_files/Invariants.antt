use Rattle.std.proofs.Common.{◌≡◌, ◌++◌, drop, map}
use Rattle.rk_gen.specs.Scripts.{script_file}
use Rattle.rk_gen.proofs.start.add_script_files.Given as goal

abbrev pub invariant-loop-it : goal.invariant-loop-it
invariant-loop-it l = l.files.items ++ map script_file (drop l.it-index l.all) ≡ l.fn.files.items ++ map script_file l.all
