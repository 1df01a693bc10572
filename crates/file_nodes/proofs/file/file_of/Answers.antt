use Rattle.file_nodes.proofs.FileAnswerLaws.{of_list, exactly_file, exactly_large, exactly_absent, exactly_high, exactly_no_node, exactly_size}
use Rattle.file_nodes.proofs.file.file_of.Goals as goal

pub returns-clause-file : goal.returns-clause-file
returns-clause-file c =
    exactly_file c.args.objects.now c.args.root.now c.stored_file.result
    (of_list c.as_slice.result.now c.args.objects.now c.args.root.now c.stored_file.result c.as_slice.ensures c.stored_file.ensures)

pub returns-clause-too_large : goal.returns-clause-too_large
returns-clause-too_large c =
    exactly_large c.args.objects.now c.args.root.now c.stored_file.result
    (of_list c.as_slice.result.now c.args.objects.now c.args.root.now c.stored_file.result c.as_slice.ensures c.stored_file.ensures)

pub returns-clause-absent : goal.returns-clause-absent
returns-clause-absent c =
    exactly_absent c.args.objects.now c.args.root.now c.stored_file.result
    (of_list c.as_slice.result.now c.args.objects.now c.args.root.now c.stored_file.result c.as_slice.ensures c.stored_file.ensures)

pub returns-clause-too_high : goal.returns-clause-too_high
returns-clause-too_high c =
    exactly_high c.args.objects.now c.args.root.now c.stored_file.result
    (of_list c.as_slice.result.now c.args.objects.now c.args.root.now c.stored_file.result c.as_slice.ensures c.stored_file.ensures)

pub returns-clause-not_a_node : goal.returns-clause-not_a_node
returns-clause-not_a_node c =
    exactly_no_node c.args.objects.now c.args.root.now c.stored_file.result
    (of_list c.as_slice.result.now c.args.objects.now c.args.root.now c.stored_file.result c.as_slice.ensures c.stored_file.ensures)

pub returns-clause-size_differs : goal.returns-clause-size_differs
returns-clause-size_differs c =
    exactly_size c.args.objects.now c.args.root.now c.stored_file.result
    (of_list c.as_slice.result.now c.args.objects.now c.args.root.now c.stored_file.result c.as_slice.ensures c.stored_file.ensures)
