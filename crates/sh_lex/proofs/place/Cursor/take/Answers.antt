use Rattle.sh_rules.specs.Modes.{mode_of}
use Rattle.sh_token.proofs.Sizes.{look_within}
use Rattle.sh_lex.proofs.place.Cursor.take.Goals as goal

pub front_bytes-text-requires : goal.front_bytes-text-requires
front_bytes-text-requires c = look_within (mode_of c.args.kind) c.args.self.now c.args.kind c.args.length c.requires

pub step-requires-clause-within : goal.step-requires-clause-within
step-requires-clause-within c = look_within (mode_of c.args.kind) c.args.self.now c.args.kind c.args.length c.requires
