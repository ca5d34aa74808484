-- What stands before and after the separator.
use Rattle.std.{specs.Option.option_map, proofs.{Common.{◌+◌, take, drop, ap}, lemmas.List.take_rest}}
use Rattle.edi_syntax.proofs.part.split_from.Goals as goal

pub returns : goal.returns
returns c =
    let bytes = c.args.bytes.now in
    rw (take_rest bytes (c.in_ok-at.at + 1)) (ap (option_map (λ n. (take n bytes, drop (n + 1) bytes))) c.in_ok-at.ensures.found)
