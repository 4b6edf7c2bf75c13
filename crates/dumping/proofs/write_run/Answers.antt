-- `write_run` meets its contract: header, time 0 and steps are the dump. Assumes nothing.
use mathlib.Core.Path.{refl}
use Rattle.basis.proofs.Acceptance.{checked_with}
use Rattle.basis.proofs.Runs.{limit_high}
use Rattle.dumping.proofs.Whole.{header_fits, start_fits, blocks-fit, dump_shown}
use native.Mathlib.Omega.{arith}
use borrow.Author.Rules.{rules}
use Rattle.dumping.proofs.write_run.Goals as goal

pub put_header-requires : goal.put_header-requires
put_header-requires c =
    (omega (arith, c.enter.auto, c.requires.0.states, c.requires.0.few_nodes), header_fits _ _ _ _ c.args.limit c.enter.ensures refl c.args.out.now 0 c.requires.3)

pub put_start-requires : goal.put_start-requires
put_start-requires c = (
  omega (arith, c.enter.auto, c.requires.0.states, c.requires.0.few_nodes),
  start_fits _ _ _ _ c.args.limit c.enter.ensures refl c.requires.3 c.put_header.ensures,
)

pub write_steps-ran-requires : goal.write_steps-ran-requires
write_steps-ran-requires c = (
  checked_with c.requires.0 (omega (arith, c.enter.auto)) refl,
  omega (arith, c.limit_of.ensures, limit_high c.args.limit c.requires.2),
  blocks-fit _ _ _ _ c.args.limit c.enter.ensures c.limit_of.ensures c.requires.3 c.put_header.ensures c.put_start.ensures,
)

pub returns : goal.returns
returns c =
    dump_shown _ _ _ _ c.args.limit c.enter.ensures c.limit_of.ensures c.put_header.ensures c.put_start.ensures c.write_steps-ran.ensures.wrote c.write_steps-ran.ensures.ended (search rules)
