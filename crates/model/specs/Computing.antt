-- One name for every definition that computes: to unfold it is to unfold what its line names.
use Rattle.octets.specs.Choice.{choose}
use Rattle.octets.specs.Runs.{over, part, zeros}
use Rattle.octets.specs.Numbers.{word16, word32, bytes16, bytes32}
use Rattle.octets.specs.Keys.{compare_keys, three, before}
use Rattle.model.specs.Lists.{gather, every, total, head_or, from, times, same, pad}
use Rattle.model.specs.Types.{across, leaves, page_of, entry, entries, to_map, marked, walk, walked, met}
use Rattle.model.specs.Map.{lookup, insert, erase, below_bound, in_range, range}
use Rattle.model.specs.Sizes.{key_most, inline_most, leaf_least, inner_least, inner_most, leaf_most, payload, chain_most, value_most, chain_length, cell_length, cost, costs}
use Rattle.model.specs.Layouts.{to_head, of_head, to_free, of_free, holes, slot_bytes, leaf_top, with_cells, to_leaf, cell_size, placed_at, slot_of, of_leaf, record_bytes, to_inner, record_of, of_inner, to_over, of_over}
use Rattle.model.specs.Image.{cell_bytes, placed, leaf_page, numbered, inner_page, head_page, chain_pages, free_pages, first_leaf, last_child, last_leaf, linked, page_at, tree_pages, pages, encode}
use Rattle.model.specs.Decode.{cut, chain_from, free_from, held_by, reach, inner_of, cell_from, cell_of, leaf_of, tree_at, store_of, decode_pages, decode}
use Rattle.model.specs.Accept.{every_child, throughout, between, key_fits, cell_fits, lengths_fit, inside, apart, all_apart, cells_placed, leaves_placed, rising, all_rising, not_below, below, bounded, all_bounded, full, full_below, once_each, valid, accepts}
use Rattle.model.specs.Context.{close, fill, seek, plug, descend}
use Rattle.model.specs.InLeaf.{without, with, found, removed, moved, packed, kept, half, packed_leaf, room_for, added, parted, shared}
use Rattle.model.specs.Growing.{split_right, grown, grow_step, new_root, grow_up, growth}
use Rattle.model.specs.Mending.{joined, partnered, join_leaves, mend_leaf, together, first_given, last_given, rotated, join_inner, mend_inner, low_root, mend_up, settled}
use Rattle.model.specs.Change.{formatted, spot, old_chain, freed, pool, new_cell, splits, taken, has_room, placed_in, put_done, delete_done}
use Rattle.model.specs.Refusals.{good_key, good_bounds, good_value, by_arguments, good_image, by_lengths, role_at, roles, entered, guarded}
use Rattle.model.specs.Calls.{format_outcome, check_refused, check_done, check_outcome, gotten, get_outcome, standing, standing_of, view_nothing, view_done, view_outcome, describe_done, describe_outcome, put_in, delete_found, delete_in, changed_by, put_outcome, delete_outcome, entry_bytes, entry_size, fitting, scan_done, scan_outcome}
use Rattle.model.specs.Batch.{digit, paired, field_bytes, prepended, fields_of, command_of, line_says, first_line, digits_of, decimal, hex_digit, hex, answer_line, entry_line, said_number, refused, said_value, said_range, unless, line_done, stopped, advanced, run_lines, batch_done, batch_outcome}
use Rattle.model.specs.Exported.{packed_number, own_work, exported_put, exported_delete, exported_get, exported_check}

unfoldable pub computing : Unit {0}
unfolding choose over part zeros word16 word32 bytes16 bytes32 compare_keys three before gather every total head_or from times same pad across leaves page_of entry entries to_map marked walk walked met lookup insert erase below_bound in_range range key_most inline_most leaf_least inner_least inner_most leaf_most payload chain_most value_most chain_length cell_length cost costs to_head of_head to_free of_free holes slot_bytes leaf_top with_cells to_leaf cell_size placed_at slot_of of_leaf record_bytes to_inner record_of of_inner to_over of_over cell_bytes placed leaf_page numbered inner_page head_page chain_pages free_pages first_leaf last_child last_leaf linked page_at tree_pages pages encode cut chain_from free_from held_by reach inner_of cell_from cell_of leaf_of tree_at store_of decode_pages decode every_child throughout between key_fits cell_fits lengths_fit inside apart all_apart cells_placed leaves_placed rising all_rising not_below below bounded all_bounded full full_below once_each valid accepts close fill seek plug descend without with found removed moved packed kept half packed_leaf room_for added parted shared split_right grown grow_step new_root grow_up growth joined partnered join_leaves mend_leaf together first_given last_given rotated join_inner mend_inner low_root mend_up settled formatted spot old_chain freed pool new_cell splits taken has_room placed_in put_done delete_done good_key good_bounds good_value by_arguments good_image by_lengths role_at roles entered guarded format_outcome check_refused check_done check_outcome gotten get_outcome standing standing_of view_nothing view_done view_outcome describe_done describe_outcome put_in delete_found delete_in changed_by put_outcome delete_outcome entry_bytes entry_size fitting scan_done scan_outcome digit paired field_bytes prepended fields_of command_of line_says first_line digits_of decimal hex_digit hex answer_line entry_line said_number refused said_value said_range unless line_done stopped advanced run_lines batch_done batch_outcome packed_number own_work exported_put exported_delete exported_get exported_check
computing = tt
