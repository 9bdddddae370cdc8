use Rattle.nll_text_tests.proofs.types.+types.Given as goal

abbrev pub decreases-put_types : goal.decreases-put_types
decreases-put_types l = l.depth

abbrev pub decreases-put_argument : goal.decreases-put_argument
decreases-put_argument l = l.depth

abbrev pub decreases-put_arguments : goal.decreases-put_arguments
decreases-put_arguments l = l.depth

abbrev pub decreases-put_named : goal.decreases-put_named
decreases-put_named l = l.depth

abbrev pub decreases-put_type : goal.decreases-put_type
decreases-put_type l = l.depth

abbrev pub decreases-put_function : goal.decreases-put_function
decreases-put_function l = l.depth
