-- All definitions that compute, for proofs by computation: `unfolding computing` opens each of them. Assumes nothing.
use Rattle.model.specs.Names.{is_name}
use Rattle.model.specs.Atoms.{read_int, decimal, is_text, read_str, read_bool, read_atom}
use Rattle.model.specs.Tokens.{read_attribute_name, read_word, read_text, read_token, tokens_of, spelled}
use Rattle.model.specs.Grammar.{read_comparison, read_set, read_term, too_large, policy_within, read_policy}
use Rattle.model.specs.Comparison.{compare_sets, lone_value}
use Rattle.model.specs.Meaning.{meaning_of}
use Rattle.model.specs.Causes.{absent_of}
use Rattle.model.specs.Lines.{named_edition, read_attr, read_op, read_pair, read_holder, read_two, read_value, read_rule, read_keyed, framed, read_line}
use Rattle.model.specs.Declarations.{attribute_number, attribute_of, operation_number, pair_number, holder_number, sort_of, holder_numbers_of, groups}
use Rattle.model.specs.Ties.{is_below, closes_circle}
use Rattle.model.specs.Effective.{effective}
use Rattle.model.specs.Table.{words_of, effective_set, stored_set, table}
use Rattle.model.specs.State.{after}
use Rattle.model.specs.Block.{is_block, read_block, activated}
use Rattle.model.specs.Session.{pairs_of, held, entered, user_values, read_by}
use Rattle.model.specs.Refusals.{wrong_table, too_long, wrong_first_line, unframed, out_of_order, malformed, fits, stands, circular, line_refusal, other_key, not_standing, edit_refusal, bad_block, entry_fits, wrong_number, is_held, not_held, request_refusal, does_not_fit}
use Rattle.model.specs.Decision.{rules_for, verdicts, cause, decision_by, decide}
use Rattle.model.specs.Load.{read_on, load as load-load}
use Rattle.model.specs.Edits.{edited_tie, differs, changes, ties_up, set_joins, edit as edits-edit}
use Rattle.model.specs.Ledger.{step, table_after, ledger}
use Rattle.model.specs.Host.{host_call, host_table}
use Rattle.model.specs.Gate.{is_end, hex_pairs, call_of, printed, output, gate}
use Rattle.model.specs.FileText.{file_lines, file_text, write_text, write_file}

unfoldable pub computing : Unit {0}
unfolding is_name read_int decimal is_text read_str read_bool read_atom read_attribute_name read_word read_text read_token tokens_of spelled read_comparison read_set read_term too_large policy_within read_policy compare_sets lone_value meaning_of absent_of read_attr read_op read_pair read_holder read_two read_value read_rule read_keyed read_line attribute_number attribute_of operation_number pair_number holder_number sort_of holder_numbers_of groups is_below closes_circle effective words_of effective_set stored_set table after is_block read_block activated pairs_of held entered user_values read_by named_edition wrong_table too_long wrong_first_line framed unframed out_of_order malformed fits stands circular line_refusal other_key not_standing edit_refusal bad_block entry_fits wrong_number is_held not_held request_refusal rules_for verdicts cause decision_by decide read_on load-load edited_tie differs changes ties_up set_joins edits-edit step table_after ledger host_call host_table is_end hex_pairs call_of printed output gate file_lines file_text does_not_fit write_text write_file
computing = tt
