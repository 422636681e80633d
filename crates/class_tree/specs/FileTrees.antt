-- The tree of a class file, field for field: JVM specification 4.1.
use Rattle.class_tree.specs.declared.class_file.ClassFile.TheInside.{Inside}
use Rattle.class_tree.specs.Trees.{Tree}

abbrev pub tree_of : Inside → Tree
tree_of file = record {
  minor = file.minor;
  major = file.major;
  pool = file.pool;
  flags = file.flags;
  this_class = file.this_class;
  super_class = file.super_class;
  interfaces = file.interfaces;
  fields = file.fields;
  methods = file.methods;
  attrs = file.attrs;
}
