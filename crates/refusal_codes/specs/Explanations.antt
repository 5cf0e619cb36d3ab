-- What is printed of each code: what it means, an example, and what to do.
use Rattle.std.specs.Prelude.{ℕ, List, ◌++◌, codes}
use Rattle.refusal_codes.specs.declared.code.Code.{Code}
use Rattle.refusal_codes.specs.declared.code.Code.TheVariants.{A1, A2, A3, A4, A5, A6, A7, A8, C3, E1, J1, J2, J3, J4, J5, J6, P1, P2, P3, P4, P5, S1, S2}

-- the lines of a code's paragraph, each with its end
unfoldable pub explanation_of : Code → List ℕ
explanation_of A1 =
    codes "The first word of the line is no instruction or directive of plain RV64I, as `mul x5, x6, x7`,\n"
    ++ codes "`li a0, 1` or `MV a0, a1`. Names are in lower case, and only the pseudo-instructions of\n"
    ++ codes "docs/formats.md are there. Write `addi a0, x0, 1` for a small number; C code becomes plain RV64I\n"
    ++ codes "with `-march=rv64i` and `tools/elf2s.py`.\n"
explanation_of A2 =
    codes "The operands don't have the form of the word, as `addi x5, x0` or `lw x5, x6`, or the line is in the\n"
    ++ codes "wrong part, as an instruction behind `.data`. Compare the line with the table of forms in\n"
    ++ codes "docs/formats.md: a load is `lw x5, 0(x6)`.\n"
explanation_of A3 =
    codes "A number is out of its range, as `addi x5, x0, 2048`, `slli x5, x5, 64` or `.byte 256`. The table of\n"
    ++ codes "forms in docs/formats.md has the ranges. A greater number is made of two instructions, `lui` and\n"
    ++ codes "`addi`.\n"
explanation_of A4 =
    codes "A branch or a jump names a label that the text doesn't have, as `j loop` where only `Loop:` is\n"
    ++ codes "there. Labels count capitals, and a label of another program isn't seen.\n"
explanation_of A5 =
    codes "The line has a label that an earlier line has. Rename one of the two.\n"
explanation_of A6 =
    codes "A branch or jump goes too far, or to an odd address: from -4096 to 4094 bytes for a branch, from\n"
    ++ codes "-1048576 to 1048574 for `jal` and `j`. Turn the condition and jump over a `j`.\n"
explanation_of A7 =
    codes "The text has more than 65,536 words, or the data more than 1 MiB, at this line. A program has 64\n"
    ++ codes "pages of text and 256 of data, the stack among them.\n"
explanation_of A8 =
    codes "There was no memory to assemble the program. Free some, or make the text shorter.\n"
explanation_of C3 =
    codes "There was no memory to make or copy the state of a context.\n"
explanation_of E1 =
    codes "There was no memory for something else of the command. `E1 job N` names the first job that ran out\n"
    ++ codes "of memory: the report before it is whole but for the jobs that it calls refused.\n"
explanation_of J1 =
    codes "The text of the plan is no TOML document, or has a key or a value that isn't one of a plan. The keys\n"
    ++ codes "are `environment`, `programs`, `contexts` and `jobs`; a job has `limit`, which must be there,\n"
    ++ codes "`start`, `targets` and `profile`. Numbers have no point and no quotes: `limit = 1000`, not\n"
    ++ codes "`limit = \"1000\"`. `tools/lab check PLAN` names the line or the key, and the nearest known one.\n"
explanation_of J2 =
    codes "A context names a program that isn't in the table `programs`, as `contexts = [\"sort\"]` beside\n"
    ++ codes "`[programs]` with `sorted`. I is the number of the context, from 0. An empty name `\"\"` is a context\n"
    ++ codes "without a program.\n"
explanation_of J3 =
    codes "The plan has more than 4096 jobs. Make two plans of it.\n"
explanation_of J4 =
    codes "The profile of job N, counted from 0, is refused for what follows: P1 to P5 and the key.\n"
explanation_of J5 =
    codes "The program NAME isn't assembled for what follows: A1 to A8 and the line of its text, counted from\n"
    ++ codes "the line behind `'''`. `smt-lab asm FILE` gives the same line of a file.\n"
explanation_of J6 =
    codes "There was no memory to read the plan.\n"
explanation_of P1 =
    codes "A profile has no such key, as `issue_size = 8`. docs/pipeline.md has the eighteen;\n"
    ++ codes "`tools/lab check PLAN` names the nearest.\n"
explanation_of P2 =
    codes "The value of the key is of another kind, as `issue_queue = \"32\"` or `fetch = 1`. Policies are texts\n"
    ++ codes "between quotes, all else is a number.\n"
explanation_of P3 =
    codes "The number is out of the range of its key, as `issue_queue = 4`. The ranges are in docs/pipeline.md;\n"
    ++ codes "`num1` is 1, 2 or 4.\n"
explanation_of P4 =
    codes "The key `fetch` or `issue` names no policy, as `fetch = \"icount\"`. The names are in capitals: RR,\n"
    ++ codes "ICOUNT, BRCOUNT, MISSCOUNT, IQPOSN; OLDEST_FIRST, SPEC_LAST, BRANCH_FIRST.\n"
explanation_of P5 =
    codes "There was no memory to copy the name of an unknown key.\n"
explanation_of S1 =
    codes "The file can't be opened or read, has more than 64 MiB, or isn't text in UTF-8. An ELF file or a C\n"
    ++ codes "file is none: `tools/lab plan` takes both.\n"
explanation_of S2 =
    codes "The file can't be written, as where the disk is full or the reader of a pipe has gone. `-` is\n"
    ++ codes "standard output.\n"
