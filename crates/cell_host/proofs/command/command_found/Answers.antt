use Rattle.std.proofs.Common.{◌∙◌, ap, codes}
use Rattle.clap.specs.Words.{found_of, rows_of}
use Rattle.clap.specs.declared.parser.matches.ArgMatches.TheViews.{out-ArgMatches}
use Rattle.clap.proofs.WalkLemmas.{first_value-rows}
use Rattle.cell_host.specs.CommandLine.{command_with}
use Rattle.cell_host.proofs.Matches.{found_some}
use Rattle.cell_host.proofs.command.command_found.Goals as goal

pub returns : goal.returns
returns c =
    let found = c.in_ok-name in
    let given = found_of found.given.now in
    c.command_named.ensures ∙ ap (command_with found.name.now) (c.get_str.ensures ∙ first_value-rows given (codes "guid"))
    ∙ found_some (out-ArgMatches c.args.matches.now).subcommand found.name.now (rows_of given) found.ensures.name found.ensures.rows
