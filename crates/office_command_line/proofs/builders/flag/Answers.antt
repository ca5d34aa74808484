use Rattle.std.proofs.Common.{◌∙◌, ap, Some}
use Rattle.clap.specs.{Words.{Rule, rule_of}, declared.builder.ArgAction.TheVariants.SetTrue, declared.builder.arg.Arg.Arg}
use Rattle.office_command_line.proofs.builders.flag.Goals as goal

pub returns : goal.returns
returns c = record {
  rule = ap rule_of c.help.ensures ∙ ap rule_of c.action.ensures
      ∙ ap (λ (r : Rule). record r { action = Some SetTrue }) (ap rule_of c.long.ensures ∙ ap (λ (r : Rule). record r { long = Some c.args.name.now }) c.new.ensures.rule);
  local = ap (λ (a : Arg). a.global) c.help.ensures ∙ ap (λ (a : Arg). a.global) c.action.ensures ∙ ap (λ (a : Arg). a.global) c.long.ensures ∙ c.new.ensures.optional.1;
}
